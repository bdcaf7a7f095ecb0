use Rattle.std.proofs.Common.{◌∙◌, ap, option_map}
use Rattle.std.proofs.lemmas.Result.{IfOk-weaker}
use Rattle.ob_answer_explained.specs.Beginnings.{begun_with}
use Rattle.ob_answer_explained.specs.CommandTexts.{CallsTexts}
use Rattle.ob_answer_files.specs.Reads.{record_in_calls}
use Rattle.ob_command.specs.Commands.{calls_request_of}
use Rattle.ob_answer.proofs.LiveBegun.{live_begun, live_untold}
use Rattle.ob_answer.proofs.live_answer.answer_read.Goals as goal

pub returns-in-Ok-clause-made : goal.returns-in-Ok-clause-made
returns-in-Ok-clause-made g c =
    let bytes = c.args.bytes.now in
    IfOk-weaker c.answer_begun.result _ _ (λ a h whole is.
    live_begun g.C.Conversation.hears g.C.Conversation.tells c.args.conversation.now c.answer_begun.new.conversation
    (calls_request_of c.args.calls) bytes.text.items whole bytes.script.items (record_in_calls bytes)
    (begun_with (option_map (λ list. list.items) c.in-Ok.values)) _ a c.calls_with-begun.ensures c.in-Ok.ensures.begins
    (h whole (ap (λ (t : CallsTexts). t.asked.text) c.calls_with-begun.ensures ∙ is)))
    c.answer_begun.ensures.made

pub returns-in_ok-values_wrong-in-Err-clause-made : goal.returns-in_ok-values_wrong-in-Err-clause-made
returns-in_ok-values_wrong-in-Err-clause-made g c whole is =
    let wrong = c.in_ok-values_wrong-in-Err in
    live_untold g.C.Conversation.hears g.C.Conversation.tells c.args.conversation.now c.args.conversation.now
    (calls_request_of c.args.calls) whole (record_in_calls c.args.bytes.now) c.in-Err.fault c.bytes_or_none-record_text.result.now wrong.field-0
    c.bytes_or_none-record_text.ensures wrong.ensures.fault wrong.ensures.memory c.in-Err.ensures.none
