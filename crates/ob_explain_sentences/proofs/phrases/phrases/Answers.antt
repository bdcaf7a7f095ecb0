use Rattle.std.proofs.Common.{◌++◌, ap, sym, ◌∙◌, arith, List, Vec, Global, map}
use Rattle.ob_scan.specs.declared.token.Kind.{Kind}
use Rattle.ob_explain_sentences.specs.declared.groups.Phrase.{Phrase}
use Rattle.ob_explain_sentences.specs.declared.groups.Phrase.TheVariants.{Single}
use Rattle.ob_explain_sentences.specs.Groups.{groups, phrases}
use Rattle.ob_explain_sentences.proofs.Told.{whole_told, on_told, told_end}
use Rattle.ob_explain_sentences.proofs.phrases.phrases.Goals as goal
use Rattle.ob_explain_sentences.proofs.phrases.phrases.Goals.{then-has_all+in_ok-push+in_ok-left, else-has_all}

pub loop-group-init : goal.loop-group-init
loop-group-init c = ap (λ l. l ++ phrases groups c.args.kinds.items) c.new-told.ensures.items

pub loop-group-preserved : goal.loop-group-preserved
unfolding groups
loop-group-preserved c =
    elim c.if-has_all.branch [
      | then-has_all+in_ok-push+in_ok-left w ↦
          whole_told c.loop-group.told.items c.if-has_all.told.items groups c.loop-group.group-index _ c.loop-group.left.items c.deref.result.now w.deref-then-has_all.result.now
          c.if-has_all.left.items _ c.loop-group-test.true c.deref.ensures.value w.deref-then-has_all.ensures.value (sym c.has_all.ensures ∙ w.if-has_all.true)
          (ap (λ (v : Vec Phrase Global). v.items) w.told-is ∙ w.in_ok-push.ensures.items)
          (ap (λ (v : Vec Kind Global). v.items) w.left-is ∙ w.in_ok-left.ensures) c.loop-group.invariant
      | else-has_all w ↦
          on_told c.loop-group.told.items c.if-has_all.told.items groups c.loop-group.group-index _ c.loop-group.left.items c.deref.result.now
          c.if-has_all.left.items _ c.loop-group-test.true c.deref.ensures.value (sym c.has_all.ensures ∙ w.if-has_all.false)
          (ap (λ (v : Vec Phrase Global). v.items) w.told-is) (ap (λ (v : Vec Kind Global). v.items) w.left-is) c.loop-group.invariant
    ]

pub returns : goal.returns
unfolding groups
returns c =
    c.in_ok-push_singles.ensures ∙ ap (λ (l : List Kind). c.loop-group.told.items ++ map Single l) c.deref-2.ensures.value
    ∙ told_end c.loop-group.told.items groups c.loop-group.group-index c.loop-group.left.items _ (omega arith) c.loop-group.invariant
