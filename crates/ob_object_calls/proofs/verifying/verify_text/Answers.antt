use Rattle.std.proofs.lemmas.Result.{err_from_is_err_and, IfErr-weaker, on_ok_weaker}
use Rattle.ob_checked.specs.CheckedModule.{program_in}
use Rattle.ob_object_calls.proofs.CallTexts.{fault_in, memory_lawful, memory_only, no_run, none_by, record_in, told_of, verified_by}
use Rattle.ob_object_calls.proofs.verifying.verify_text.Goals as goal

pub returns-in_err-checked-clause-none : goal.returns-in_err-checked-clause-none
returns-in_err-checked-clause-none c =
    let p = err_from_is_err_and c.from_residual.result c.from_residual.ensures.1 in
    rw (p.1, p.2) (no_run c.args.module.now c.args.record.now c.in_err-checked.field-0.0 c.in_err-checked.ensures.none c.in_err-checked.ensures.memory)

pub returns-in_err-checked-clause-lawful : goal.returns-in_err-checked-clause-lawful
returns-in_err-checked-clause-lawful c =
    let p = err_from_is_err_and c.from_residual.result c.from_residual.ensures.1 in
    rw (p.1, p.2) (memory_lawful c.args.module.now c.args.record.now c.in_err-checked.field-0.0 c.in_err-checked.ensures.none c.in_err-checked.ensures.memory)

pub returns-in_err-checked-clause-exact : goal.returns-in_err-checked-clause-exact
returns-in_err-checked-clause-exact c =
    let p = err_from_is_err_and c.from_residual.result c.from_residual.ensures.1 in
    rw (p.1, p.2) (λ fault numbered. memory_only c.args.module.now c.args.record.now c.in_err-checked.field-0.0 c.in_err-checked.ensures.none c.in_err-checked.ensures.memory fault)

pub returns-clause-verified : goal.returns-clause-verified
returns-clause-verified c =
    on_ok_weaker c.verify_record.result
    (verified_by c.args.module.now c.args.record.now _ c.in_ok-checked.ensures.program c.in_ok-checked.ensures.alone)
    c.verify_record.ensures.legal

pub returns-clause-fault : goal.returns-clause-fault
returns-clause-fault c =
    IfErr-weaker c.verify_record.result _ _
    (told_of c.args.module.now c.args.record.now _ c.in_ok-checked.ensures.program c.in_ok-checked.ensures.alone)
    c.verify_record.ensures.fault

pub returns-clause-none : goal.returns-clause-none
returns-clause-none c =
    none_by c.verify_record.result
    (λ r. c.verify_record.ensures.lawful
    (record_in c.args.module.now c.args.record.now _ c.in_ok-checked.ensures.program c.in_ok-checked.ensures.alone r))

pub returns-clause-lawful : goal.returns-clause-lawful
returns-clause-lawful c =
    λ r. c.verify_record.ensures.lawful
    (record_in c.args.module.now c.args.record.now _ c.in_ok-checked.ensures.program c.in_ok-checked.ensures.alone r)

pub returns-clause-exact : goal.returns-clause-exact
returns-clause-exact c =
    λ fault numbered f. c.verify_record.ensures.exact fault numbered
    (fault_in c.args.module.now c.args.record.now _ c.in_ok-checked.ensures.program c.in_ok-checked.ensures.alone fault f)

pub verify_record-requires : goal.verify_record-requires
verify_record-requires c = c.modules_are_well_formed.ensures c.args.module.now (program_in c.in_ok-checked.checked) c.in_ok-checked.ensures.program
