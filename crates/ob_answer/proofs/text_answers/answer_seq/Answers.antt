use Rattle.std.proofs.Common.{string_bytes}
use Rattle.std.proofs.lemmas.Result.{IfOk-weaker}
use Rattle.ob_answer_explained.specs.CommandTexts.{of_text}
use Rattle.ob_answer_explained.proofs.AtOnce.{calls_refused, holds_of_whole}
use Rattle.ob_answer.proofs.Made.{text_refused}
use Rattle.ob_fault_lines.specs.SequentialFaultLines.{seq_fault_line}
use Rattle.ob_object_compile.specs.View.{asked_of, beginning_of}
use Rattle.ob_object_calls.specs.SequentialRun.{IsNumbered, IsSeqRefusal, IsSequentialRun}
use Rattle.ob_object_calls.specs.declared.sequential.SeqTextFault.TheVariants as Runs
use Rattle.ob_answer_files.specs.Printed.{said}
use Rattle.ob_answer.proofs.text_answers.answer_seq.Goals as goal

pub returns-in-Ok : goal.returns-in-Ok
returns-in-Ok c whole is =
    let a = asked_of c.args.asked in
    said (string_bytes c.in-Ok.lines)
    (holds_of_whole Runs.Compile a (λ t. IsSequentialRun (of_text a t) c.args.script.now (string_bytes c.in-Ok.lines)) _ whole is
    c.in-Ok.ensures.at_once c.in-Ok.ensures.run)
    c.printed.ensures

pub returns-in-Err : goal.returns-in-Err
returns-in-Err c =
    let a = asked_of c.args.asked in
    text_refused Runs.Compile a (λ t. IsSequentialRun (of_text a t) c.args.script.now) (λ t. IsSeqRefusal (of_text a t) c.args.script.now) IsNumbered
    (seq_fault_line (beginning_of c.args.asked.beginning)) c.in-Err.fault c.seq_refused.result c.seq_refused.ensures.fault
    (IfOk-weaker c.seq_refused.result _ _ (λ _ known. (known, c.in-Err.ensures.refused.memory)) c.seq_refused.ensures.memory)
    c.in-Err.ensures.at_once (λ whole. calls_refused (of_text a whole) c.args.script.now) c.in-Err.ensures.refused
