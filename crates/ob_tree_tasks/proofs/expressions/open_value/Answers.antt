use Rattle.std.proofs.Common.{refl}
use Rattle.ob_checked.specs.View.{expression_of}
use Rattle.ob_layout.specs.Layout.{block_in}
use Rattle.ob_tree_law.specs.Work.{Value, value_parts}
use Rattle.ob_tree_tasks.specs.Scoped.{own_in}
use Rattle.ob_tree_tasks.proofs.Giving.{first_fits, by_parts, stays, leads, leads_on}
use Rattle.ob_tree_tasks.proofs.expressions.open_value.Goals as goal

pub loop-operand-init : goal.loop-operand-init
loop-operand-init c = stays _ _ c.requires.fits

pub open_outer-requires-clause-room : goal.open_outer-requires-clause-room
open_outer-requires-clause-room c =
    (first_fits (block_in c.args.layout.now) (Value (own_in c.args.own) (expression_of c.loop-operand.first.now)) c.loop-operand.work c.loop-operand.invariant.fits).0

pub open_outer-requires-clause-fits : goal.open_outer-requires-clause-fits
open_outer-requires-clause-fits c = c.loop-operand.invariant.fits

pub loop-operand-preserved : goal.loop-operand-preserved
loop-operand-preserved c =
    let g = block_in c.args.layout.now in
    let o = own_in c.args.own in
    let e = expression_of c.loop-operand.first.now in
    let inv = c.loop-operand.invariant in
    leads g _ _ (leads_on g _ _ _ inv (by_parts g (Value o e) c.loop-operand.work (value_parts g o e) _ refl c.in-Some.ensures inv.fits))

pub loop-operand-smaller : goal.loop-operand-smaller
loop-operand-smaller c =
    let g = block_in c.args.layout.now in
    let o = own_in c.args.own in
    let e = expression_of c.loop-operand.first.now in
    (by_parts g (Value o e) c.loop-operand.work (value_parts g o e) _ refl c.in-Some.ensures c.loop-operand.invariant.fits).fewer

pub returns : goal.returns
returns c = leads_on (block_in c.args.layout.now) _ _ _ c.loop-operand.invariant c.in_default.ensures
