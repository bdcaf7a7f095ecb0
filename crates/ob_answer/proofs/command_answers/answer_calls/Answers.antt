use Rattle.std.proofs.Common.{◌∙◌, ap, option_map}
use Rattle.std.proofs.lemmas.Result.{IfOk-weaker}
use Rattle.ob_answer_explained.specs.Beginnings.{begun_with}
use Rattle.ob_answer_explained.specs.CommandTexts.{CallsTexts}
use Rattle.ob_answer_files.specs.Reads.{record_in_calls}
use Rattle.ob_command.specs.Commands.{calls_request_of}
use Rattle.ob_answer.proofs.Begun.{calls_begun, calls_untold}
use Rattle.ob_answer.proofs.command_answers.answer_calls.Goals as goal

pub returns-in-Ok : goal.returns-in-Ok
returns-in-Ok c =
    let bytes = c.args.bytes.now in
    IfOk-weaker c.begun_calls.result _ _ (λ a h whole is.
    calls_begun c.args.product (calls_request_of c.args.calls) bytes.text.items whole bytes.script.items (record_in_calls bytes)
    (begun_with (option_map (λ list. list.items) c.in-Ok.values)) _ a c.calls_with.ensures c.in-Ok.ensures.begins
    (h whole (ap (λ (t : CallsTexts). t.asked.text) c.calls_with.ensures ∙ is)))
    c.begun_calls.ensures

pub returns-in-Err : goal.returns-in-Err
returns-in-Err c =
    let bytes = c.args.bytes.now in
    calls_untold c.args.product (calls_request_of c.args.calls) bytes.text.items bytes.script.items (record_in_calls bytes) c.in-Err.fault
    c.shows_calls-is_shown.result c.bytes_or_none-record_text.result.now c.values_wrong.result c.shows_calls-is_shown.ensures c.bytes_or_none-record_text.ensures
    c.values_wrong.ensures.fault c.values_wrong.ensures.memory c.in-Err.ensures.none
