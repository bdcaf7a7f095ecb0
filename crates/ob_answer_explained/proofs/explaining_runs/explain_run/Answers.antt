use Rattle.std.proofs.Common.{◌≡◌, codes, rules, string_bytes}
use Rattle.std.proofs.lemmas.Result.{IfOk-weaker}
use Rattle.ob_answer_explained.specs.CommandTexts.{run_of_text, run_texts_of, texts_of_text}
use Rattle.ob_answer_explained.specs.Explains.{IsRunFaultShown, right}
use Rattle.ob_answer_explained.proofs.AtOnce.{holds_of_whole, run_refused}
use Rattle.ob_answer_explained.proofs.Shown.{run_shown, wrong_made}
use Rattle.ob_object_compile.specs.Compilation.{IsShort}
use Rattle.ob_object_perform.specs.Performance.{IsNumbered, IsPerformance, IsRefusal}
use Rattle.ob_object_perform.specs.Printed.{HasPerformance}
use Rattle.ob_object_perform.specs.declared.performing.PerformFault.TheVariants as Perform
use Rattle.ob_text_record.specs.Record.{record_of}
use Rattle.ob_answer_explained.proofs.explaining_runs.explain_run.Goals as goal

pub returns-in_ok-from_str-in-Ok : goal.returns-in_ok-from_str-in-Ok
returns-in_ok-from_str-in-Ok c whole is =
    let t = (run_texts_of c.args.run).texts in
    let of = holds_of_whole Perform.Compile t.asked (λ text. IsPerformance (texts_of_text t text) (record_of c.in-Ok._record)) _ whole is c.in-Ok.ensures.at_once c.in-Ok.ensures.performance in
    let text : string_bytes c.in_ok-from_str-in-Ok.field-0 ≡ codes "ok\n" = search rules in
    right (record_of c.in-Ok._record, of) (rw (← text) c.printed.ensures)

pub returns-in-Err : goal.returns-in-Err
returns-in-Err c =
    let t = run_texts_of c.args.run in
    wrong_made Perform.Compile t.texts.asked (λ text. IsRefusal IsShort (texts_of_text t.texts text)) (λ text. IsRunFaultShown (run_of_text t text)) c.in-Err.fault
    c.in-Err.ensures.at_once (λ whole. run_refused IsShort (texts_of_text t.texts whole)) (run_shown t)
    (λ text. HasPerformance (texts_of_text t.texts text)) IsNumbered c.run_wrong.result c.run_wrong.ensures.fault
    (IfOk-weaker c.run_wrong.result _ _ (λ _ known. (known, c.in-Err.ensures.refused.memory)) c.run_wrong.ensures.memory) c.in-Err.ensures.refused
