use Rattle.std.proofs.Common.{string_bytes}
use Rattle.ob_answer_explained.specs.CommandTexts.{of_text}
use Rattle.ob_answer_explained.proofs.AtOnce.{holds_of_whole}
use Rattle.ob_object_compile.specs.View.{asked_of}
use Rattle.ob_object_live.specs.LiveParts.{BeginsAt}
use Rattle.ob_answer_files.specs.Printed.{said}
use Rattle.ob_answer.proofs.LiveBegun.{live_refused}
use Rattle.ob_answer.proofs.live_answer.answer_begun.Goals as goal

pub returns-in_ok-live_talk-in-Ok-clause-made : goal.returns-in_ok-live_talk-in-Ok-clause-made
returns-in_ok-live_talk-in-Ok-clause-made g c whole is =
    let a = asked_of c.args.asked in
    let begins = holds_of_whole (λ e. e) a (λ t. BeginsAt (of_text a t) c.in-Ok.live) _ whole is c.in-Ok.ensures.at_once c.in-Ok.ensures.begun in
    said (string_bytes c.new.result) (c.new.ensures.bytes, c.in_ok-live_talk-in-Ok.ensures (of_text a whole) begins) c.printed.ensures

pub returns-in_ok-object_refused-in-Err-clause-made : goal.returns-in_ok-object_refused-in-Err-clause-made
returns-in_ok-object_refused-in-Err-clause-made g c whole is =
    let refusal = c.in_ok-object_refused-in-Err in
    live_refused g.C.Conversation.hears g.C.Conversation.tells c.args.conversation.now c.args.conversation.now (asked_of c.args.asked) c.in-Err.fault refusal.field-0 whole is
    refusal.ensures.fault (refusal.ensures.memory, c.in-Err.ensures.refused.memory) c.in-Err.ensures.at_once c.in-Err.ensures.refused
