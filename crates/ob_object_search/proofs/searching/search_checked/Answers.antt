use Rattle.std.proofs.Common.{inr, refl}
use Rattle.std.proofs.lemmas.Result.{err_from_is_err_and, IfErr-weaker, IfOk-weaker}
use Rattle.ob_checked.specs.CheckedModule.{program_in}
use Rattle.ob_object_search.proofs.Histories.{enough_here, found_fault, found_lawful, found_needed, found_order, open_lawful, reading_lawful}
use Rattle.ob_object_search.proofs.searching.search_checked.Goals as goal

pub returns-in_err-read-clause-lawful : goal.returns-in_err-read-clause-lawful
returns-in_err-read-clause-lawful c =
    let p = err_from_is_err_and c.from_residual.result c.from_residual.ensures.1 in
    rw (p.1, p.2)
    (reading_lawful (program_in c.args.checked.now) c.args.text.now c.args.search.now.budget c.args.search.now.most c.in_err-read.field-0.0 c.in_err-read.ensures.fault)

pub returns-in_err-opening-clause-lawful : goal.returns-in_err-opening-clause-lawful
returns-in_err-opening-clause-lawful c =
    let p = err_from_is_err_and c.from_residual-in_err-opening.result c.from_residual-in_err-opening.ensures.1 in
    rw (p.1, p.2)
    (open_lawful (program_in c.args.checked.now) c.args.text.now c.args.search.now.budget c.args.search.now.most _ c.in_ok-read.ensures.history c.in_ok-read.ensures.alone
    c.in_err-opening.field-0.0 c.in_err-opening.ensures.fault)

pub returns-in_err-object-clause-lawful : goal.returns-in_err-object-clause-lawful
returns-in_err-object-clause-lawful c =
    let p = err_from_is_err_and c.from_residual-in_err-object.result c.from_residual-in_err-object.ensures.1 in
    rw (p.1, p.2) (λ order r. inr refl)

pub returns-clause-order : goal.returns-clause-order
returns-clause-order c =
    IfOk-weaker c.order_found.result _ _
    (λ order. found_order (program_in c.args.checked.now) c.args.text.now c.args.search.now.budget c.args.search.now.most _ c.in_ok-read.ensures.history c.in_ok-read.ensures.alone
    _ c.in_ok-opening.ensures.state _ c.budget_of-budget.ensures _ _ refl order.items)
    (rw (c.as_slice.ensures.value, c.in_ok-object.ensures.checked, c.in_ok-object.ensures.opening, c.in_ok-object.ensures.budget) at c.order_found.ensures.order)

pub returns-clause-needed : goal.returns-clause-needed
returns-clause-needed c =
    IfOk-weaker c.order_found.result _ _
    (λ order. found_needed (program_in c.args.checked.now) c.args.text.now c.args.search.now.budget c.args.search.now.most _ c.in_ok-read.ensures.history c.in_ok-read.ensures.alone
    _ c.in_ok-opening.ensures.state _ c.budget_of-budget.ensures _ _ refl order.items)
    (rw (c.as_slice.ensures.value, c.in_ok-object.ensures.checked, c.in_ok-object.ensures.opening, c.in_ok-object.ensures.budget) at c.order_found.ensures.needed)

pub returns-clause-fault : goal.returns-clause-fault
returns-clause-fault c =
    IfErr-weaker c.order_found.result _ _
    (found_fault (program_in c.args.checked.now) c.args.text.now c.args.search.now.budget c.args.search.now.most _ c.in_ok-read.ensures.history c.in_ok-read.ensures.alone
    _ c.in_ok-opening.ensures.state _ c.budget_of-budget.ensures _ _ refl c.in_ok-read.ensures.apart c.in_ok-read.ensures.numbered)
    (rw (c.as_slice.ensures.value, c.in_ok-object.ensures.checked, c.in_ok-object.ensures.opening, c.in_ok-object.ensures.budget) at c.order_found.ensures.fault)

pub returns-clause-lawful : goal.returns-clause-lawful
returns-clause-lawful c =
    λ order r. IfErr-weaker c.order_found.result _ _
    (λ e f. found_lawful (program_in c.args.checked.now) c.args.text.now c.args.search.now.budget c.args.search.now.most _ c.in_ok-read.ensures.history c.in_ok-read.ensures.alone
    _ c.in_ok-opening.ensures.state _ c.budget_of-budget.ensures _ _ refl e f order r)
    (rw (c.as_slice.ensures.value, c.in_ok-object.ensures.checked, c.in_ok-object.ensures.opening, c.in_ok-object.ensures.budget) at c.order_found.ensures.fault)

pub returns-clause-decided : goal.returns-clause-decided
returns-clause-decided c =
    λ enough. (rw c.as_slice.ensures.value at c.order_found.ensures.decided)
    (enough_here (program_in c.args.checked.now) c.args.text.now c.args.search.now.budget c.args.search.now.most _ c.in_ok-read.ensures.history c.in_ok-read.ensures.alone
    _ _ refl c.in_ok-read.ensures.apart c.in_ok-read.ensures.begun enough)
