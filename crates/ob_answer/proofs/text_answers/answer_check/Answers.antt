use Rattle.std.proofs.Common.{◌≡◌, codes, rules, string_bytes}
use Rattle.std.proofs.lemmas.Result.{IfOk-weaker}
use Rattle.ob_answer.specs.Answers.{SaysOk}
use Rattle.ob_answer_explained.proofs.AtOnce.{holds_of_whole, object_refused}
use Rattle.ob_answer.proofs.Made.{text_refused}
use Rattle.ob_fault_lines.specs.CompileFaultLines.{compile_line}
use Rattle.ob_object_compile.specs.Asked.{ByBody, by_body}
use Rattle.ob_object_compile.specs.Compilation.{IsNumbered, IsRefusal, IsShort, default_budget}
use Rattle.ob_object_calls.specs.SequentialRun.{HasObject}
use Rattle.ob_answer_files.specs.Printed.{said}
use Rattle.ob_answer.proofs.text_answers.answer_check.Goals as goal

pub returns-in_ok-from_str-in-Ok : goal.returns-in_ok-from_str-in-Ok
returns-in_ok-from_str-in-Ok c whole is =
    let of = holds_of_whole (λ e. e) (by_body c.args.module.now 1 default_budget) (λ t. HasObject (by_body t 1 default_budget)) _ whole is c.in-Ok.ensures.at_once c.in-Ok.ensures.object in
    let text : string_bytes c.in_ok-from_str-in-Ok.field-0 ≡ codes "ok\n" = search rules in
    said (string_bytes c.in_ok-from_str-in-Ok.field-0) (of, text) c.printed.ensures

pub returns-in-Err : goal.returns-in-Err
returns-in-Err c = text_refused (λ e. e) (by_body c.args.module.now 1 default_budget) SaysOk (λ t. IsRefusal IsShort (by_body t 1 default_budget)) IsNumbered (compile_line ByBody)
    c.in-Err.fault c.compile_refused.result c.compile_refused.ensures.fault
    (IfOk-weaker c.compile_refused.result _ _ (λ _ known. (known, c.in-Err.ensures.refused.memory)) c.compile_refused.ensures.memory)
    c.in-Err.ensures.at_once (λ whole. object_refused IsShort (by_body whole 1 default_budget)) c.in-Err.ensures.refused
