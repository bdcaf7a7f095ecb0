use Rattle.std.proofs.Common.{Option, subst}
use Rattle.std.proofs.lemmas.Result.{err_from_is_err_and}
use Rattle.ob_checked.specs.CheckedModule.{program_in}
use Rattle.ob_object_search.proofs.Histories.{open_lawful, reading_lawful}
use Rattle.ob_object_search.proofs.Recordings.{form_unsearched, open_unsearched}
use Rattle.ob_object_calls.specs.Beginnings.{IsBeginningFault}
use Rattle.ob_meaning.specs.ByPositionStore.{Activation}
use Rattle.ob_object_search.proofs.order_recording.hear.Goals as goal

pub returns-in_err-read-clause-lawful : goal.returns-in_err-read-clause-lawful
returns-in_err-read-clause-lawful c =
    let p = err_from_is_err_and c.from_residual.result c.from_residual.ensures.1 in
    rw (p.1, p.2)
    (reading_lawful (program_in c.args.checked.now) c.args.text.now c.args.asked 0 c.in_err-read.field-0.0 c.in_err-read.ensures.fault)

pub returns-in_err-opening-clause-lawful : goal.returns-in_err-opening-clause-lawful
returns-in_err-opening-clause-lawful c =
    let p = err_from_is_err_and c.from_residual-in_err-opening.result c.from_residual-in_err-opening.ensures.1 in
    rw (p.1, p.2)
    (open_lawful (program_in c.args.checked.now) c.args.text.now c.args.asked 0 _ c.in_ok-read.ensures.history c.in_ok-read.ensures.alone
    c.in_err-opening.field-0.0
    (subst (λ (carried : Option Activation). IsBeginningFault (program_in c.args.checked.now) carried c.in_err-opening.field-0.0) c.in_ok-carried.ensures c.in_err-opening.ensures.fault))

pub returns-in_err-read-clause-unsearched : goal.returns-in_err-read-clause-unsearched
returns-in_err-read-clause-unsearched c =
    let p = err_from_is_err_and c.from_residual.result c.from_residual.ensures.1 in
    rw (p.1, p.2) (form_unsearched c.in_err-read.field-0.0)

pub returns-in_err-opening-clause-unsearched : goal.returns-in_err-opening-clause-unsearched
returns-in_err-opening-clause-unsearched c =
    let p = err_from_is_err_and c.from_residual-in_err-opening.result c.from_residual-in_err-opening.ensures.1 in
    rw (p.1, p.2) (open_unsearched c.in_err-opening.field-0.0)
