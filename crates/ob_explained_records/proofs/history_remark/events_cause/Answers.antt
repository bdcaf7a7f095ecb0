use Rattle.std.proofs.lemmas.Result.{IfOk-weaker}
use Rattle.ob_checked.specs.CheckedModule.{program_in}
use Rattle.ob_explained_records.specs.HistoryForms.{of_module, of_none}
use Rattle.ob_explained_records.proofs.history_remark.events_cause.Goals as goal

pub returns-in-Ok : goal.returns-in-Ok
returns-in-Ok c =
    IfOk-weaker c.history_line_cause.result _ _ (λ cause is. of_module (program_in c.in-Ok.checked) c.in-Ok.ensures.program (rw c.exports-exports.ensures at is))
    c.history_line_cause.ensures

pub returns-in-Err : goal.returns-in-Err
returns-in-Err c = IfOk-weaker c.no_cause.result _ _ (λ cause no. rw no.0 (of_none no.1)) c.no_cause.ensures
