use Rattle.std.proofs.Common.{rules, get_or}
use Rattle.std.proofs.lemmas.Option.{slice_get-get_or}
use Rattle.ob_text_words.specs.declared.item.Item.TheVariants as Items
use Rattle.wf_play.specs.ItemSteps.{IsBeyond, IsItemRun}
use Rattle.wf_play.proofs.Plays.{played_none, played_more, first_beyond, of_same}
use Rattle.wf_play.proofs.playing.play_items.Goals as goal

pub loop-index-init : goal.loop-index-init
loop-index-init g c = record { object = search rules; played = played_none (g.E.Engine.meaning c.args.machine.now.engine) c.args.machine.now.sizes c.args.limit c.args.machine.now.state }

pub returns-then-not-branch-clause-fault : goal.returns-then-not-branch-clause-fault
returns-then-not-branch-clause-fault g c =
    let e = g.E.Engine in
    let a = c.args.machine.now in
    let b = c.loop-index.machine in
    let h = c.loop-index.invariant in
    let item = get_or c.args.items.now c.loop-index.index (Items.Steps 0 0) in
    first_beyond (e.meaning a.engine) a.sizes c.args.limit c.args.items.now c.loop-index.index item a.state b.state
    (slice_get-get_or c.args.items.now c.loop-index.index (Items.Steps 0 0) c.loop-index-test.true) h.played
    (of_same e.meaning (λ x z. IsBeyond (e.meaning x) z c.args.limit item b.state) a b h.object (rw c.if-not-branch.true at c.in_ok-play_item.ensures.played))

pub loop-index-preserved : goal.loop-index-preserved
loop-index-preserved g c =
    let e = g.E.Engine in
    let a = c.args.machine.now in
    let b = c.loop-index.machine in
    let d = c.play_item.new.machine in
    let h = c.loop-index.invariant in
    let item = get_or c.args.items.now c.loop-index.index (Items.Steps 0 0) in
    record {
      object = search rules;
      played = played_more (e.meaning a.engine) a.sizes c.args.limit c.args.items.now c.loop-index.index item a.state b.state d.state
          (slice_get-get_or c.args.items.now c.loop-index.index (Items.Steps 0 0) c.loop-index-test.true) h.played
          (of_same e.meaning (λ x z. IsItemRun (e.meaning x) z c.args.limit item b.state d.state) a b h.object (rw c.if-not-branch.false at c.in_ok-play_item.ensures.played));
    }
