use Rattle.std.proofs.Common.{refl, inr}
use Rattle.std.proofs.lemmas.Result.{err_from_is_err_and, IfErr-weaker, IfOk-weaker}
use Rattle.ob_checked.specs.CheckedModule.{program_in}
use Rattle.ob_object_search.proofs.Histories.{enough_here}
use Rattle.ob_object_search.proofs.Told.{found_enough, found_fault, found_lawful, found_needed, found_orders, open_lawful, parts_here, reading_lawful, short_fails, short_lawful}
use Rattle.ob_object_search.specs.View.{orders_in}
use Rattle.ob_object_search.proofs.searching_parts.search_parts.Goals as goal

pub returns-in_err-read-clause-lawful : goal.returns-in_err-read-clause-lawful
returns-in_err-read-clause-lawful c =
    let p = err_from_is_err_and c.from_residual.result c.from_residual.ensures.1 in
    rw (p.1, p.2)
    (reading_lawful (program_in c.args.checked.now) c.args.text.now c.args.search.now.budget c.args.by c.args.search.now.most c.in_err-read.field-0.0 c.in_err-read.ensures.fault)

pub returns-in_err-opening-clause-lawful : goal.returns-in_err-opening-clause-lawful
returns-in_err-opening-clause-lawful c =
    let p = err_from_is_err_and c.from_residual-in_err-opening.result c.from_residual-in_err-opening.ensures.1 in
    rw (p.1, p.2)
    (open_lawful (program_in c.args.checked.now) c.args.text.now c.args.search.now.budget c.args.by c.args.search.now.most _ c.in_ok-read.ensures.history c.in_ok-read.ensures.alone
    c.in_err-opening.field-0.0 c.in_err-opening.ensures.fault)

pub returns-in_err-object-clause-lawful : goal.returns-in_err-object-clause-lawful
returns-in_err-object-clause-lawful c =
    let p = err_from_is_err_and c.from_residual-in_err-object.result c.from_residual-in_err-object.ensures.1 in
    rw (p.1, p.2) (λ parts r. inr refl)

pub returns-in_err-parts-clause-fault : goal.returns-in_err-parts-clause-fault
returns-in_err-parts-clause-fault c =
    let p = err_from_is_err_and c.from_residual-in_err-parts.result c.from_residual-in_err-parts.ensures.1 in
    rw (p.1, p.2)
    (short_fails (program_in c.args.checked.now) c.args.text.now c.args.search.now.budget c.args.by c.args.search.now.most _ c.in_ok-read.ensures.history c.in_ok-read.ensures.alone
    _ c.in_ok-opening.ensures.state _ _ refl c.in_err-parts.field-0.0 (rw c.as_slice-names.ensures.value at c.in_err-parts.ensures.fault))

pub returns-in_err-parts-clause-lawful : goal.returns-in_err-parts-clause-lawful
returns-in_err-parts-clause-lawful c =
    let p = err_from_is_err_and c.from_residual-in_err-parts.result c.from_residual-in_err-parts.ensures.1 in
    rw (p.1, p.2)
    (short_lawful (program_in c.args.checked.now) c.args.text.now c.args.search.now.budget c.args.by c.args.search.now.most _ c.in_ok-read.ensures.history c.in_ok-read.ensures.alone
    _ c.in_ok-opening.ensures.state _ _ refl c.in_err-parts.field-0.0 (rw c.as_slice-names.ensures.value at c.in_err-parts.ensures.fault))

pub orders_found-requires-clause-apart : goal.orders_found-requires-clause-apart
orders_found-requires-clause-apart c = rw c.as_slice-names.ensures.value c.in_ok-read.ensures.apart

pub orders_found-requires-clause-here : goal.orders_found-requires-clause-here
orders_found-requires-clause-here c =
    rw (c.as_slice-names.ensures.value, c.as_slice.ensures.value)
    (parts_here (program_in c.args.checked.now) c.args.text.now c.args.search.now.budget c.args.by c.args.search.now.most _ c.in_ok-read.ensures.history c.in_ok-read.ensures.alone
    _ c.in_ok-opening.ensures.state _ c.budget_of-budget.ensures _ c.in_ok-read.ensures.apart _ c.in_ok-read.ensures.numbered refl _ c.in_ok-parts.ensures.parts)

pub returns-clause-orders : goal.returns-clause-orders
returns-clause-orders c =
    IfOk-weaker c.orders_found.result _ _
    (λ found. found_orders (program_in c.args.checked.now) c.args.text.now c.args.search.now.budget c.args.by c.args.search.now.most _ c.in_ok-read.ensures.history c.in_ok-read.ensures.alone
    _ c.in_ok-opening.ensures.state _ c.budget_of-budget.ensures _ c.in_ok-read.ensures.apart _ c.in_ok-read.ensures.numbered refl _ c.in_ok-parts.ensures.parts (orders_in found.items))
    (rw (c.as_slice-names.ensures.value, c.as_slice.ensures.value, c.in_ok-object.ensures.checked, c.in_ok-object.ensures.opening, c.in_ok-object.ensures.budget) at c.orders_found.ensures.orders)

pub returns-clause-needed : goal.returns-clause-needed
returns-clause-needed c =
    IfOk-weaker c.orders_found.result _ _
    (λ found. found_needed (program_in c.args.checked.now) c.args.text.now c.args.search.now.budget c.args.by c.args.search.now.most _ c.in_ok-read.ensures.history c.in_ok-read.ensures.alone
    _ c.in_ok-opening.ensures.state _ c.budget_of-budget.ensures _ c.in_ok-read.ensures.apart _ c.in_ok-read.ensures.numbered refl _ c.in_ok-parts.ensures.parts (orders_in found.items))
    (rw (c.as_slice-names.ensures.value, c.as_slice.ensures.value, c.in_ok-object.ensures.checked, c.in_ok-object.ensures.opening, c.in_ok-object.ensures.budget) at c.orders_found.ensures.orders)

pub returns-clause-decided : goal.returns-clause-decided
returns-clause-decided c =
    λ enough. (rw (c.as_slice-names.ensures.value, c.as_slice.ensures.value) at c.orders_found.ensures.decided)
    (found_enough (program_in c.args.checked.now) c.args.text.now c.args.search.now.budget c.args.by c.args.search.now.most _ c.in_ok-read.ensures.history c.in_ok-read.ensures.alone
    _ c.in_ok-opening.ensures.state _ c.budget_of-budget.ensures _ c.in_ok-read.ensures.apart _ c.in_ok-read.ensures.numbered refl _ c.in_ok-parts.ensures.parts
    (enough_here (program_in c.args.checked.now) c.args.text.now c.args.search.now.budget c.args.search.now.most _ c.in_ok-read.ensures.history c.in_ok-read.ensures.alone
    _ _ refl c.in_ok-read.ensures.apart c.in_ok-read.ensures.begun enough))

pub returns-clause-fault : goal.returns-clause-fault
returns-clause-fault c =
    IfErr-weaker c.orders_found.result _ _
    (found_fault (program_in c.args.checked.now) c.args.text.now c.args.search.now.budget c.args.by c.args.search.now.most _ c.in_ok-read.ensures.history c.in_ok-read.ensures.alone
    _ c.in_ok-opening.ensures.state _ c.budget_of-budget.ensures _ c.in_ok-read.ensures.apart _ c.in_ok-read.ensures.numbered refl _ c.in_ok-parts.ensures.parts)
    (rw (c.as_slice-names.ensures.value, c.as_slice.ensures.value, c.in_ok-object.ensures.checked, c.in_ok-object.ensures.opening, c.in_ok-object.ensures.budget) at c.orders_found.ensures.fault)

pub returns-clause-lawful : goal.returns-clause-lawful
returns-clause-lawful c =
    λ parts r. IfErr-weaker c.orders_found.result _ _
    (λ e f. found_lawful (program_in c.args.checked.now) c.args.text.now c.args.search.now.budget c.args.by c.args.search.now.most _ c.in_ok-read.ensures.history c.in_ok-read.ensures.alone
    _ c.in_ok-opening.ensures.state _ c.budget_of-budget.ensures _ c.in_ok-read.ensures.apart _ c.in_ok-read.ensures.numbered refl _ c.in_ok-parts.ensures.parts e f parts r)
    (rw (c.as_slice-names.ensures.value, c.as_slice.ensures.value, c.in_ok-object.ensures.checked, c.in_ok-object.ensures.opening, c.in_ok-object.ensures.budget) at c.orders_found.ensures.fault)
