use Rattle.std.proofs.Common.{map, refl, ap, sym}
use Rattle.ob_checked.specs.View.{actual_of, designator_of, expression_of}
use Rattle.ob_layout.specs.Layout.{block_in}
use Rattle.ob_tree_law.specs.Work.{Handing, Value, Address, handing_parts, address_parts}
use Rattle.ob_tree_tasks.specs.Scoped.{own_in}
use Rattle.ob_tree_tasks.specs.WorkTasks.{before, with_first}
use Rattle.ob_tree_tasks.proofs.Giving.{first_fits, by_parts, then_gives}
use Rattle.ob_tree_tasks.proofs.Pushed.{nothing_in, handing_value, handing_place}
use Rattle.ob_tree_tasks.proofs.expressions.open_handing.Goals as goal

pub returns-in_default : goal.returns-in_default
returns-in_default c =
    let g = block_in c.args.layout.now in
    let o = own_in c.args.own in
    let xs = map actual_of c.args.actuals.now in
    by_parts g (Handing o xs) c.args.work.now (handing_parts g o xs) _ refl
    (sym (ap (λ l. before (handing_parts g o (map actual_of l)) c.args.work.now) (nothing_in c.args.actuals.now c.in_default.ensures.cases))) c.requires.fits

pub open_value-requires-clause-room : goal.open_value-requires-clause-room
open_value-requires-clause-room c =
    let g = block_in c.args.layout.now in
    let o = own_in c.args.own in
    let xs = map actual_of c.args.actuals.now in
    let e = expression_of c.in-Value.expression in
    let first = by_parts g (Handing o xs) c.args.work.now (handing_parts g o xs) (with_first (Value o e) c.leave_actuals.new.work) refl (handing_value g o c.args.work.now c.leave_actuals.new.work _ _ _ _ c.in-Some.ensures.cases.0 c.in-Value.is c.leave_actuals.ensures.left) c.requires.fits in
    (first_fits g (Value o e) c.leave_actuals.new.work first.fits).0

pub open_value-requires-clause-fits : goal.open_value-requires-clause-fits
open_value-requires-clause-fits c =
    let g = block_in c.args.layout.now in
    let o = own_in c.args.own in
    let xs = map actual_of c.args.actuals.now in
    let e = expression_of c.in-Value.expression in
    let first = by_parts g (Handing o xs) c.args.work.now (handing_parts g o xs) (with_first (Value o e) c.leave_actuals.new.work) refl (handing_value g o c.args.work.now c.leave_actuals.new.work _ _ _ _ c.in-Some.ensures.cases.0 c.in-Value.is c.leave_actuals.ensures.left) c.requires.fits in
    first.fits

pub returns-in-Value : goal.returns-in-Value
returns-in-Value c =
    let g = block_in c.args.layout.now in
    let o = own_in c.args.own in
    let xs = map actual_of c.args.actuals.now in
    let e = expression_of c.in-Value.expression in
    let first = by_parts g (Handing o xs) c.args.work.now (handing_parts g o xs) (with_first (Value o e) c.leave_actuals.new.work) refl (handing_value g o c.args.work.now c.leave_actuals.new.work _ _ _ _ c.in-Some.ensures.cases.0 c.in-Value.is c.leave_actuals.ensures.left) c.requires.fits in
    then_gives g _ _ _ first c.open_value.ensures

pub open_address-requires-clause-room : goal.open_address-requires-clause-room
open_address-requires-clause-room c =
    let g = block_in c.args.layout.now in
    let o = own_in c.args.own in
    let xs = map actual_of c.args.actuals.now in
    let d = designator_of c.in-Place.designator in
    let first = by_parts g (Handing o xs) c.args.work.now (handing_parts g o xs) (with_first (Address o d) c.leave_actuals.new.work) refl (handing_place g o c.args.work.now c.leave_actuals.new.work _ _ _ _ c.in-Some.ensures.cases.0 c.in-Place.is c.leave_actuals.ensures.left) c.requires.fits in
    (first_fits g (Address o d) c.leave_actuals.new.work first.fits).0

pub open_address-requires-clause-small : goal.open_address-requires-clause-small
open_address-requires-clause-small c =
    let g = block_in c.args.layout.now in
    let o = own_in c.args.own in
    let xs = map actual_of c.args.actuals.now in
    let d = designator_of c.in-Place.designator in
    let first = by_parts g (Handing o xs) c.args.work.now (handing_parts g o xs) (with_first (Address o d) c.leave_actuals.new.work) refl (handing_place g o c.args.work.now c.leave_actuals.new.work _ _ _ _ c.in-Some.ensures.cases.0 c.in-Place.is c.leave_actuals.ensures.left) c.requires.fits in
    (first_fits g (Address o d) c.leave_actuals.new.work first.fits).1

pub returns-in-Place : goal.returns-in-Place
returns-in-Place c =
    let g = block_in c.args.layout.now in
    let o = own_in c.args.own in
    let xs = map actual_of c.args.actuals.now in
    let d = designator_of c.in-Place.designator in
    let first = by_parts g (Handing o xs) c.args.work.now (handing_parts g o xs) (with_first (Address o d) c.leave_actuals.new.work) refl (handing_place g o c.args.work.now c.leave_actuals.new.work _ _ _ _ c.in-Some.ensures.cases.0 c.in-Place.is c.leave_actuals.ensures.left) c.requires.fits in
    then_gives g _ _ _ first (by_parts g (Address o d) c.leave_actuals.new.work (address_parts g o d) _ refl c.open_address.ensures first.fits)
