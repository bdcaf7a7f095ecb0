use Rattle.std.proofs.Common.{refl, ap, sym}
use Rattle.ob_checked.specs.View.{expression_of, operations_in}
use Rattle.ob_layout.specs.Layout.{block_in}
use Rattle.ob_tree_law.specs.Work.{Operators, Value, operators_parts}
use Rattle.ob_tree_tasks.specs.Scoped.{own_in}
use Rattle.ob_tree_tasks.specs.WorkTasks.{before, with_first}
use Rattle.ob_tree_tasks.proofs.Giving.{first_fits, by_parts, then_gives}
use Rattle.ob_tree_tasks.proofs.Pushed.{nothing_in, operators_two}
use Rattle.ob_tree_tasks.proofs.expressions.open_operators.Goals as goal

pub returns-in_default : goal.returns-in_default
returns-in_default c =
    let g = block_in c.args.layout.now in
    let o = own_in c.args.own in
    let os = operations_in c.args.operations.now in
    by_parts g (Operators o os) c.args.work.now (operators_parts g o os) _ refl
    (sym (ap (λ l. before (operators_parts g o (operations_in l)) c.args.work.now) (nothing_in c.args.operations.now c.in_default.ensures.cases))) c.requires.fits

pub returns-in_default-open_operator : goal.returns-in_default-open_operator
returns-in_default-open_operator c =
    let g = block_in c.args.layout.now in
    let o = own_in c.args.own in
    let os = operations_in c.args.operations.now in
    by_parts g (Operators o os) c.args.work.now (operators_parts g o os) c.open_operator.new.work refl
    (operators_two g o c.args.work.now c.leave_operators.new.work c.open_operator.new.work _ _ _ c.in-Some.ensures.cases.0 c.leave_operators.ensures.left c.in_default-open_operator.ensures) c.requires.fits

pub open_value-requires-clause-room : goal.open_value-requires-clause-room
open_value-requires-clause-room c =
    let g = block_in c.args.layout.now in
    let o = own_in c.args.own in
    let os = operations_in c.args.operations.now in
    let e = expression_of c.in-Some-open_operator.operand.now in
    let first = by_parts g (Operators o os) c.args.work.now (operators_parts g o os) (with_first (Value o e) c.open_operator.new.work) refl (operators_two g o c.args.work.now c.leave_operators.new.work (with_first (Value o e) c.open_operator.new.work) _ _ _ c.in-Some.ensures.cases.0 c.leave_operators.ensures.left c.in-Some-open_operator.ensures) c.requires.fits in
    (first_fits g (Value o e) c.open_operator.new.work first.fits).0

pub open_value-requires-clause-fits : goal.open_value-requires-clause-fits
open_value-requires-clause-fits c =
    let g = block_in c.args.layout.now in
    let o = own_in c.args.own in
    let os = operations_in c.args.operations.now in
    let e = expression_of c.in-Some-open_operator.operand.now in
    let first = by_parts g (Operators o os) c.args.work.now (operators_parts g o os) (with_first (Value o e) c.open_operator.new.work) refl (operators_two g o c.args.work.now c.leave_operators.new.work (with_first (Value o e) c.open_operator.new.work) _ _ _ c.in-Some.ensures.cases.0 c.leave_operators.ensures.left c.in-Some-open_operator.ensures) c.requires.fits in
    first.fits

pub returns-in-Some-open_operator : goal.returns-in-Some-open_operator
returns-in-Some-open_operator c =
    let g = block_in c.args.layout.now in
    let o = own_in c.args.own in
    let os = operations_in c.args.operations.now in
    let e = expression_of c.in-Some-open_operator.operand.now in
    let first = by_parts g (Operators o os) c.args.work.now (operators_parts g o os) (with_first (Value o e) c.open_operator.new.work) refl (operators_two g o c.args.work.now c.leave_operators.new.work (with_first (Value o e) c.open_operator.new.work) _ _ _ c.in-Some.ensures.cases.0 c.leave_operators.ensures.left c.in-Some-open_operator.ensures) c.requires.fits in
    then_gives g _ _ _ first c.open_value.ensures
