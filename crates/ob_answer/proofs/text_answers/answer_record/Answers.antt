use Rattle.std.proofs.Common.{string_bytes}
use Rattle.std.proofs.lemmas.Result.{IfOk-weaker}
use Rattle.ob_answer_explained.specs.CommandTexts.{texts_of_text}
use Rattle.ob_answer_explained.proofs.AtOnce.{holds_of_whole, run_refused}
use Rattle.ob_answer.proofs.Made.{text_refused}
use Rattle.ob_fault_lines.specs.RunFaultLines.{run_fault_line}
use Rattle.ob_object_compile.specs.Compilation.{IsShort}
use Rattle.ob_object_compile.specs.View.{beginning_of}
use Rattle.ob_object_perform.specs.Performance.{IsNumbered, IsRefusal}
use Rattle.ob_object_perform.specs.Printed.{IsRecordPrinted}
use Rattle.ob_object_perform.specs.Texts.{texts_of}
use Rattle.ob_object_perform.specs.declared.performing.PerformFault.TheVariants as Perform
use Rattle.ob_answer_files.specs.Printed.{said}
use Rattle.ob_answer.proofs.text_answers.answer_record.Goals as goal

pub returns-in-Ok : goal.returns-in-Ok
returns-in-Ok c whole is =
    let t = texts_of c.args.texts in
    said (string_bytes c.in-Ok.lines)
    (holds_of_whole Perform.Compile t.asked (λ text. IsRecordPrinted (texts_of_text t text) (string_bytes c.in-Ok.lines)) _ whole is
    c.in-Ok.ensures.at_once c.in-Ok.ensures.run)
    c.printed.ensures

pub returns-in-Err : goal.returns-in-Err
returns-in-Err c =
    let t = texts_of c.args.texts in
    text_refused Perform.Compile t.asked (λ text. IsRecordPrinted (texts_of_text t text)) (λ text. IsRefusal IsShort (texts_of_text t text)) IsNumbered
    (run_fault_line (beginning_of c.args.texts.asked.beginning)) c.in-Err.fault c.run_refused.result c.run_refused.ensures.fault
    (IfOk-weaker c.run_refused.result _ _ (λ _ known. (known, c.in-Err.ensures.refused.memory)) c.run_refused.ensures.memory)
    c.in-Err.ensures.at_once (λ whole. run_refused IsShort (texts_of_text t whole)) c.in-Err.ensures.refused
