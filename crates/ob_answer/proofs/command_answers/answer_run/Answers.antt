use Rattle.std.proofs.Common.{◌∙◌, ap, option_map}
use Rattle.std.proofs.lemmas.Result.{IfOk-weaker}
use Rattle.ob_answer_explained.specs.Beginnings.{begun_with}
use Rattle.ob_answer_explained.specs.CommandTexts.{RunTexts}
use Rattle.ob_answer_files.specs.Reads.{record_in_run}
use Rattle.ob_command.specs.Commands.{run_request_of}
use Rattle.ob_answer.proofs.Begun.{run_begun, run_untold}
use Rattle.ob_answer.proofs.command_answers.answer_run.Goals as goal

pub returns-in-Ok : goal.returns-in-Ok
returns-in-Ok c =
    let bytes = c.args.bytes.now in
    IfOk-weaker c.begun_run.result _ _ (λ a h whole is.
    run_begun c.args.product (run_request_of c.args.run) bytes.text.items whole bytes.script.items bytes.schedule.items (record_in_run bytes)
    (begun_with (option_map (λ list. list.items) c.in-Ok.values)) _ a c.run_with.ensures c.in-Ok.ensures.begins
    (h whole (ap (λ (t : RunTexts). t.texts.asked.text) c.run_with.ensures ∙ is)))
    c.begun_run.ensures

pub returns-in-Err : goal.returns-in-Err
returns-in-Err c =
    let bytes = c.args.bytes.now in
    run_untold c.args.product (run_request_of c.args.run) bytes.text.items bytes.script.items bytes.schedule.items (record_in_run bytes) c.in-Err.fault
    c.shows_run-is_shown.result c.bytes_or_none-record_text.result.now c.values_wrong.result c.shows_run-is_shown.ensures c.bytes_or_none-record_text.ensures
    c.values_wrong.ensures.fault c.values_wrong.ensures.memory c.in-Err.ensures.none
