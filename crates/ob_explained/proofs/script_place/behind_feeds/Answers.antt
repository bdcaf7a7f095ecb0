use Rattle.std.proofs.Common.{◌≡◌, ◌+◌, ◌-◌, ◌==◌, drop, get_or, true, false, tests, rules, sym, ap, ◌∙◌}
use Rattle.ob_explained.specs.ScriptPlaces.{behind_feeds}
use Rattle.ob_explained.proofs.Feeds.{feed_on, moved, other_on}
use Rattle.ob_explained.proofs.script_place.behind_feeds.Goals as goal
use Rattle.ob_explained.proofs.script_place.behind_feeds.Goals.{then-byte-eq10, else-byte-eq10}

pub loop-index-preserved : goal.loop-index-preserved
loop-index-preserved c =
    let text = c.args.text.now in
    let i = c.loop-index.index in
    elim c.if-byte-eq10.branch [
      | then-byte-eq10 w ↦
          let is : (get_or text i 0 == 10) ≡ true = search (rules, tests) in
          c.loop-index.invariant ∙ (ap (λ n. i + n) (feed_on c.loop-index.left text i c.loop-index-test.true c.if-left-eq0.false is)
          ∙ (moved i (behind_feeds (c.loop-index.left - 1) (drop (i + 1) text)) ∙ ap (λ left. i + 1 + behind_feeds left (drop (i + 1) text)) (sym w.left-is)))
      | else-byte-eq10 w ↦
          let is : (get_or text i 0 == 10) ≡ false = search (rules, tests) in
          c.loop-index.invariant ∙ (ap (λ n. i + n) (other_on c.loop-index.left text i c.loop-index-test.true c.if-left-eq0.false is)
          ∙ (moved i (behind_feeds c.loop-index.left (drop (i + 1) text)) ∙ ap (λ left. i + 1 + behind_feeds left (drop (i + 1) text)) (sym w.left-is)))
    ]
