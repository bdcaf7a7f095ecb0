use Rattle.std.proofs.Common.{inr, refl}
use Rattle.std.proofs.lemmas.Result.{err_from_is_err_and}
use Rattle.ob_checked.specs.CheckedModule.{program_in}
use Rattle.ob_object_calls.proofs.Beginnings.{record_opened}
use Rattle.ob_object_calls.proofs.VerifyByCode.{code_stands}
use Rattle.ob_object_calls.proofs.VerifyFitting.{calls_fit}
use Rattle.ob_object_calls.proofs.Records.{accepted_here, legal_here, no_fault, no_opening, no_record, one_form, one_opening, one_order, order_fails}
use Rattle.ob_object_calls.proofs.Typed.{beginning_typed}
use Rattle.ob_object_calls.proofs.verifying.verify_record.Goals as goal
use Rattle.ob_meaning.specs.ByPositionStore.{Activation}
use Rattle.ob_store.specs.View.{state_of}

pub returns-in_err-read-clause-exact : goal.returns-in_err-read-clause-exact
returns-in_err-read-clause-exact c =
    let p = err_from_is_err_and c.from_residual.result c.from_residual.ensures.1 in
    rw (p.1, p.2) (one_form (program_in c.args.checked.now) c.args.text.now c.in_err-read.field-0.0 c.in_err-read.ensures.fault)

pub returns-in_err-read-clause-lawful : goal.returns-in_err-read-clause-lawful
returns-in_err-read-clause-lawful c =
    let p = err_from_is_err_and c.from_residual.result c.from_residual.ensures.1 in
    rw (p.1, p.2) (no_record (program_in c.args.checked.now) c.args.text.now c.in_err-read.field-0.0 c.in_err-read.ensures.fault)

pub returns-in_err-begun-clause-lawful : goal.returns-in_err-begun-clause-lawful
returns-in_err-begun-clause-lawful c =
    let p = err_from_is_err_and c.from_residual-in_err-begun.result c.from_residual-in_err-begun.ensures.1 in
    rw (p.1, p.2)
    (no_opening (program_in c.args.checked.now) c.args.text.now _ c.in_ok-read.ensures.record c.in_ok-read.ensures.alone c.in_err-begun.field-0.0 c.in_err-begun.ensures.fault)

pub returns-in_err-begun-clause-exact : goal.returns-in_err-begun-clause-exact
returns-in_err-begun-clause-exact c =
    let p = err_from_is_err_and c.from_residual-in_err-begun.result c.from_residual-in_err-begun.ensures.1 in
    rw (p.1, p.2)
    (one_opening (program_in c.args.checked.now) c.args.text.now _ c.in_ok-read.ensures.record c.in_ok-read.ensures.alone c.in_err-begun.field-0.0 c.in_err-begun.ensures.fault)

pub by_code-requires-clause-typed : goal.by_code-requires-clause-typed
by_code-requires-clause-typed c =
    let program = program_in c.args.checked.now in
    beginning_typed program c.requires c.openings_are_states.ensures _ (record_opened program c.args.text.now _ c.in_ok-read.ensures.record) _ c.in_ok-begun.ensures.state

pub returns-in_err-code-clause-fault : goal.returns-in_err-code-clause-fault
returns-in_err-code-clause-fault c =
    let p = err_from_is_err_and c.from_residual-in_err-code.result c.from_residual-in_err-code.ensures.1 in
    rw (p.1, p.2) tt

pub returns-in_err-code-clause-lawful : goal.returns-in_err-code-clause-lawful
returns-in_err-code-clause-lawful c =
    let p = err_from_is_err_and c.from_residual-in_err-code.result c.from_residual-in_err-code.ensures.1 in
    rw (p.1, p.2) (λ r. refl)

pub returns-in_err-code-clause-exact : goal.returns-in_err-code-clause-exact
returns-in_err-code-clause-exact c =
    let p = err_from_is_err_and c.from_residual-in_err-code.result c.from_residual-in_err-code.ensures.1 in
    rw (p.1, p.2) (λ fault numbered f. inr refl)

-- ---- where the module's code makes the calls

pub check_order_by-requires : goal.check_order_by-requires
check_order_by-requires c =
    record {
      program = program_in c.args.checked.now;
      budget = c.in_ok-read.read.budget;
      state = state_of c.in_ok-begun.begun;
      stands = code_stands (program_in c.args.checked.now) c.in_ok-read.read.budget (state_of c.in_ok-begun.begun) _ c.in-Some.code c.in-Some.is c.in_ok-code.ensures;
      takes = calls_fit (program_in c.args.checked.now) c.args.text.now _ c.in_ok-read.ensures.record;
    }

pub returns-in_err-check_order_by-clause-fault : goal.returns-in_err-check_order_by-clause-fault
returns-in_err-check_order_by-clause-fault c =
    let program = program_in c.args.checked.now in
    let opening = state_of c.in_ok-begun.begun in
    let budget = c.in_ok-read.read.budget in
    let stands = code_stands program budget opening _ c.in-Some.code c.in-Some.is c.in_ok-code.ensures in
    let p = err_from_is_err_and c.from_residual-in_err-check_order_by.result c.from_residual-in_err-check_order_by.ensures.1 in
    rw (p.1, p.2)
    (order_fails program c.args.text.now _ c.in_ok-read.ensures.record c.in_ok-read.ensures.alone _ c.in_ok-begun.ensures.state c.in_err-check_order_by.field-0.0
    (rw c.deref.ensures.value at (c.in_err-check_order_by.ensures.fault program budget opening stands)))

pub returns-in_err-check_order_by-clause-lawful : goal.returns-in_err-check_order_by-clause-lawful
returns-in_err-check_order_by-clause-lawful c =
    let program = program_in c.args.checked.now in
    let opening = state_of c.in_ok-begun.begun in
    let budget = c.in_ok-read.read.budget in
    let stands = code_stands program budget opening _ c.in-Some.code c.in-Some.is c.in_ok-code.ensures in
    let p = err_from_is_err_and c.from_residual-in_err-check_order_by.result c.from_residual-in_err-check_order_by.ensures.1 in
    rw (p.1, p.2)
    (accepted_here program c.args.text.now _ c.in_ok-read.ensures.record c.in_ok-read.ensures.alone _ c.in_ok-begun.ensures.state c.in_err-check_order_by.field-0.0
    (rw c.deref.ensures.value at (λ (last : Activation). c.in_err-check_order_by.ensures.accepted program budget opening last stands)))

pub returns-in_err-check_order_by-clause-exact : goal.returns-in_err-check_order_by-clause-exact
returns-in_err-check_order_by-clause-exact c =
    let program = program_in c.args.checked.now in
    let opening = state_of c.in_ok-begun.begun in
    let budget = c.in_ok-read.read.budget in
    let stands = code_stands program budget opening _ c.in-Some.code c.in-Some.is c.in_ok-code.ensures in
    let p = err_from_is_err_and c.from_residual-in_err-check_order_by.result c.from_residual-in_err-check_order_by.ensures.1 in
    rw (p.1, p.2)
    (one_order program c.args.text.now _ c.in_ok-read.ensures.record c.in_ok-read.ensures.alone _ c.in_ok-begun.ensures.state c.in_err-check_order_by.field-0.0
    (rw c.deref.ensures.value at (c.in_err-check_order_by.ensures.exact program budget opening stands)))

pub returns-in-Some-clause-legal : goal.returns-in-Some-clause-legal
returns-in-Some-clause-legal c =
    let program = program_in c.args.checked.now in
    let opening = state_of c.in_ok-begun.begun in
    let budget = c.in_ok-read.read.budget in
    let stands = code_stands program budget opening _ c.in-Some.code c.in-Some.is c.in_ok-code.ensures in
    let l = rw c.deref.ensures.value at (c.in_ok-check_order_by.ensures.legal program budget opening stands) in
    legal_here program c.args.text.now _ c.in_ok-read.ensures.record c.in_ok-read.ensures.alone _ c.in_ok-begun.ensures.state l.0 l.1

pub returns-in-Some-clause-exact : goal.returns-in-Some-clause-exact
returns-in-Some-clause-exact c =
    let program = program_in c.args.checked.now in
    let opening = state_of c.in_ok-begun.begun in
    let budget = c.in_ok-read.read.budget in
    let stands = code_stands program budget opening _ c.in-Some.code c.in-Some.is c.in_ok-code.ensures in
    no_fault program c.args.text.now _ c.in_ok-read.ensures.record c.in_ok-read.ensures.alone _ c.in_ok-begun.ensures.state
    (rw c.deref.ensures.value at (c.in_ok-check_order_by.ensures.exact program budget opening stands))

-- ---- where the interpreter makes them

pub returns-in_err-check_order-clause-fault : goal.returns-in_err-check_order-clause-fault
returns-in_err-check_order-clause-fault c =
    let p = err_from_is_err_and c.from_residual-in_err-check_order.result c.from_residual-in_err-check_order.ensures.1 in
    rw (p.1, p.2)
    (order_fails (program_in c.args.checked.now) c.args.text.now _ c.in_ok-read.ensures.record c.in_ok-read.ensures.alone _ c.in_ok-begun.ensures.state c.in_err-check_order.field-0.0
    (rw c.deref-2.ensures.value at c.in_err-check_order.ensures.fault))

pub returns-in_err-check_order-clause-lawful : goal.returns-in_err-check_order-clause-lawful
returns-in_err-check_order-clause-lawful c =
    let p = err_from_is_err_and c.from_residual-in_err-check_order.result c.from_residual-in_err-check_order.ensures.1 in
    rw (p.1, p.2)
    (accepted_here (program_in c.args.checked.now) c.args.text.now _ c.in_ok-read.ensures.record c.in_ok-read.ensures.alone _ c.in_ok-begun.ensures.state c.in_err-check_order.field-0.0
    (rw c.deref-2.ensures.value at c.in_err-check_order.ensures.accepted))

pub returns-in_err-check_order-clause-exact : goal.returns-in_err-check_order-clause-exact
returns-in_err-check_order-clause-exact c =
    let p = err_from_is_err_and c.from_residual-in_err-check_order.result c.from_residual-in_err-check_order.ensures.1 in
    rw (p.1, p.2)
    (one_order (program_in c.args.checked.now) c.args.text.now _ c.in_ok-read.ensures.record c.in_ok-read.ensures.alone _ c.in_ok-begun.ensures.state c.in_err-check_order.field-0.0
    (rw c.deref-2.ensures.value at c.in_err-check_order.ensures.exact))

pub returns-clause-exact : goal.returns-clause-exact
returns-clause-exact c =
    no_fault (program_in c.args.checked.now) c.args.text.now _ c.in_ok-read.ensures.record c.in_ok-read.ensures.alone _ c.in_ok-begun.ensures.state
    (rw c.deref-2.ensures.value at c.in_ok-check_order.ensures.exact)
