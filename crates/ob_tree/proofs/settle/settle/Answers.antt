use Rattle.std.proofs.Common.{sym, ◌∙◌}
use Rattle.ob_layout.specs.Layout.{block_in}
use Rattle.ob_tree.proofs.Settling.{settled_so}
use Rattle.ob_tree.proofs.settle.settle.Goals as goal

pub open-requires-clause-silent : goal.open-requires-clause-silent
open-requires-clause-silent c = sym c.is_silent.ensures ∙ c.loop-work-test.true

pub open-requires-clause-fits : goal.open-requires-clause-fits
open-requires-clause-fits c = c.loop-work.invariant.fits

pub returns : goal.returns
returns c =
    let inv = c.loop-work.invariant in
    settled_so (block_in c.args.layout.now) c.loop-work.work c.args.work.now inv.same inv.room (sym c.is_silent.ensures ∙ c.loop-work-test.false)

pub loop-work-preserved : goal.loop-work-preserved
loop-work-preserved c =
    let inv = c.loop-work.invariant in
    let on = c.open.ensures in
    record { same = on.same ∙ inv.same; room = on.room ∙ inv.room; fits = on.fits }

pub loop-work-smaller : goal.loop-work-smaller
loop-work-smaller c = c.open.ensures.fewer
