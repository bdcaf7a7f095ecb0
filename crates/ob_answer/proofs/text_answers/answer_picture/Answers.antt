use Rattle.std.proofs.Common.{string_bytes}
use Rattle.std.proofs.lemmas.Result.{IfOk-weaker}
use Rattle.ob_answer_explained.specs.CommandTexts.{texts_of_text}
use Rattle.ob_answer.specs.Refusals.{IsNumberedDraw}
use Rattle.ob_answer_explained.proofs.AtOnce.{holds_of_whole}
use Rattle.ob_answer.proofs.AtOnceMade.{picture_refused}
use Rattle.ob_answer.proofs.Made.{numbered_draw, text_refused}
use Rattle.ob_fault_lines.specs.DrawFaultLines.{draw_fault_line}
use Rattle.ob_object_compile.specs.View.{beginning_of}
use Rattle.ob_object_perform.specs.Pictured.{IsDrawRefusal, IsPicturePrinted}
use Rattle.ob_object_perform.specs.Texts.{texts_of}
use Rattle.ob_object_perform.specs.declared.drawing.DrawFault.TheVariants as Draw
use Rattle.ob_object_perform.specs.declared.performing.PerformFault.TheVariants as Perform
use Rattle.ob_answer_files.specs.Printed.{said}
use Rattle.ob_answer.proofs.text_answers.answer_picture.Goals as goal

pub returns-in-Ok : goal.returns-in-Ok
returns-in-Ok c whole is =
    let t = texts_of c.args.texts in
    said (string_bytes c.in-Ok.picture)
    (holds_of_whole (λ e. Draw.Run (Perform.Compile e)) t.asked (λ text. IsPicturePrinted (texts_of_text t text) c.args.calls (string_bytes c.in-Ok.picture)) _ whole is
    c.in-Ok.ensures.at_once c.in-Ok.ensures.picture)
    c.printed.ensures

pub returns-in-Err : goal.returns-in-Err
returns-in-Err c =
    let t = texts_of c.args.texts in
    text_refused (λ e. Draw.Run (Perform.Compile e)) t.asked (λ text. IsPicturePrinted (texts_of_text t text) c.args.calls) (λ text. IsDrawRefusal (texts_of_text t text) c.args.calls) IsNumberedDraw
    (draw_fault_line (beginning_of c.args.texts.asked.beginning)) c.in-Err.fault c.draw_refused.result c.draw_refused.ensures.fault
    (IfOk-weaker c.draw_refused.result _ _ (λ _ known. numbered_draw c.in-Err.fault known c.in-Err.ensures.refused.memory) c.draw_refused.ensures.memory)
    c.in-Err.ensures.at_once (λ whole. picture_refused (texts_of_text t whole) c.args.calls) c.in-Err.ensures.refused
