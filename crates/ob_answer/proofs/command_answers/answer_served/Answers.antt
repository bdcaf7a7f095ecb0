use Rattle.std.proofs.Common.{◌∙◌, ap, option_map, refl}
use Rattle.std.proofs.lemmas.Result.{IfOk-weaker}
use Rattle.ob_answer_explained.specs.Beginnings.{begun_with}
use Rattle.ob_answer_explained.specs.CommandTexts.{CallsTexts}
use Rattle.ob_answer_files.specs.Reads.{record_in_calls}
use Rattle.ob_command.specs.Commands.{calls_request_of}
use Rattle.ob_answer.proofs.Begun.{serve_begun, serve_untold}
use Rattle.ob_answer.proofs.command_answers.answer_served.Goals as goal

pub returns-in-Ok : goal.returns-in-Ok
returns-in-Ok g c =
    let bytes = c.args.bytes.now in
    IfOk-weaker c.answer_serve.result _ _ (λ a h whole is.
    serve_begun (calls_request_of c.args.calls) bytes.text.items whole bytes.script.items (record_in_calls bytes)
    (begun_with (option_map (λ list. list.items) c.in-Ok.values)) _ a c.calls_with-begun.ensures c.in-Ok.ensures.begins
    (h whole (ap (λ (t : CallsTexts). t.asked.text) c.calls_with-begun.ensures ∙ is)))
    c.answer_serve.ensures

pub returns-in-Err : goal.returns-in-Err
returns-in-Err g c =
    let bytes = c.args.bytes.now in
    serve_untold (calls_request_of c.args.calls) bytes.text.items bytes.script.items (record_in_calls bytes) c.in-Err.fault
    c.bytes_or_none-record_text.result.now c.values_wrong.result c.bytes_or_none-record_text.ensures
    c.values_wrong.ensures.fault c.values_wrong.ensures.memory c.in-Err.ensures.none
