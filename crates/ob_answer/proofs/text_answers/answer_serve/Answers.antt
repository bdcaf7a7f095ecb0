use Rattle.std.proofs.Common.{string_bytes}
use Rattle.std.proofs.lemmas.Result.{IfOk-weaker}
use Rattle.ob_answer_explained.specs.CommandTexts.{of_text}
use Rattle.ob_answer_explained.proofs.AtOnce.{holds_of_whole}
use Rattle.ob_answer.proofs.AtOnceMade.{workers_refused}
use Rattle.ob_answer.proofs.Made.{text_refused}
use Rattle.ob_desk_serve.specs.PromisesOfServeTexts.{IsNumbered, IsServedPrinted, IsUngatedRefusal}
use Rattle.ob_desk_serve.specs.declared.serving_texts.ServeTextFault.TheVariants as Serve
use Rattle.ob_fault_lines.specs.ServeFaultLines.{serve_fault_line}
use Rattle.ob_object_compile.specs.View.{asked_of, beginning_of}
use Rattle.ob_object_perform.specs.declared.performing.PerformFault.TheVariants as Perform
use Rattle.ob_answer_files.specs.Printed.{said}
use Rattle.ob_answer.proofs.text_answers.answer_serve.Goals as goal

pub returns-in-Ok : goal.returns-in-Ok
returns-in-Ok g c whole is =
    let a = asked_of c.args.asked in
    said (string_bytes c.in-Ok.lines)
    (holds_of_whole (λ e. Serve.Texts (Perform.Compile e)) a (λ t. IsServedPrinted (of_text a t) c.args.script.now (string_bytes c.in-Ok.lines)) _ whole is
    c.in-Ok.ensures.at_once c.in-Ok.ensures.served)
    c.printed.ensures

pub returns-in-Err : goal.returns-in-Err
returns-in-Err g c =
    let a = asked_of c.args.asked in
    text_refused (λ e. Serve.Texts (Perform.Compile e)) a (λ t. IsServedPrinted (of_text a t) c.args.script.now) (λ t. IsUngatedRefusal (of_text a t) c.args.script.now) IsNumbered
    (serve_fault_line (beginning_of c.args.asked.beginning)) c.in-Err.fault c.serve_refused.result c.serve_refused.ensures.fault
    (IfOk-weaker c.serve_refused.result _ _ (λ _ known. (known, c.in-Err.ensures.refused.memory)) c.serve_refused.ensures.memory)
    c.in-Err.ensures.at_once (λ whole. workers_refused (of_text a whole) c.args.script.now) c.in-Err.ensures.refused
