use Rattle.std.proofs.Common.{string_bytes}
use Rattle.std.proofs.lemmas.Result.{err_from_is_err_and}
use Rattle.ob_text_record.specs.Record.{record_of}
use Rattle.ob_object_search.proofs.Texts.{enough_in, order_in, text_lawful}
use Rattle.ob_object_search.proofs.Recordings.{fault_by, record_by}
use Rattle.ob_object_search.proofs.order_recording.record_of_text.Goals as goal

pub returns-in_err-checked-clause-lawful : goal.returns-in_err-checked-clause-lawful
returns-in_err-checked-clause-lawful c =
    let p = err_from_is_err_and c.from_residual.result c.from_residual.ensures.1 in
    rw (p.1, p.2)
    (text_lawful c.args.module.now c.args.history.now c.args.search.now.budget c.args.search.now.most c.in_err-checked.field-0.0 c.in_err-checked.ensures.none c.in_err-checked.ensures.memory)

pub returns-in_err-found-clause-fault : goal.returns-in_err-found-clause-fault
returns-in_err-found-clause-fault c =
    let p = err_from_is_err_and c.from_residual-in_err-found.result c.from_residual-in_err-found.ensures.1 in
    rw (p.1, p.2)
    (fault_by c.args.module.now c.args.history.now c.args.search.now.budget c.args.search.now.most _ c.in_ok-checked.ensures.program c.in_ok-checked.ensures.alone
    c.in_err-found.field-0.0 c.in_err-found.ensures.fault)

pub returns-in_err-found-clause-lawful : goal.returns-in_err-found-clause-lawful
returns-in_err-found-clause-lawful c =
    let p = err_from_is_err_and c.from_residual-in_err-found.result c.from_residual-in_err-found.ensures.1 in
    rw (p.1, p.2)
    (λ order r. c.in_err-found.ensures.lawful order
    (order_in c.args.module.now c.args.history.now c.args.search.now.budget c.args.search.now.most _ c.in_ok-checked.ensures.program c.in_ok-checked.ensures.alone order r))

pub returns-in_err-found-clause-decided : goal.returns-in_err-found-clause-decided
returns-in_err-found-clause-decided c =
    let p = err_from_is_err_and c.from_residual-in_err-found.result c.from_residual-in_err-found.ensures.1 in
    rw (p.1, p.2)
    (λ e. c.in_err-found.ensures.decided
    (enough_in c.args.module.now c.args.history.now c.args.search.now.budget c.args.search.now.most _ c.in_ok-checked.ensures.program c.in_ok-checked.ensures.alone e))

pub returns-clause-written : goal.returns-clause-written
returns-clause-written c =
    record_by c.args.module.now c.args.history.now c.args.search.now.budget c.args.search.now.most _ c.in_ok-checked.ensures.program c.in_ok-checked.ensures.alone
    (record_of c.in_ok-found.found) c.in_ok-found.ensures.made (string_bytes c.in_ok-write_record.field-0) c.in_ok-write_record.ensures
