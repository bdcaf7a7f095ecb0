use Rattle.std.proofs.Common.{◌≡◌, codes, rules, string_bytes}
use Rattle.std.proofs.lemmas.Result.{IfOk-weaker}
use Rattle.ob_answer_explained.specs.CommandTexts.{calls_of_text, calls_texts_of, of_text}
use Rattle.ob_answer_explained.specs.Explains.{HasRun, IsCallsFaultShown, right}
use Rattle.ob_answer_explained.proofs.AtOnce.{calls_refused, holds_of_whole}
use Rattle.ob_answer_explained.proofs.Shown.{calls_shown, wrong_made}
use Rattle.ob_object_calls.specs.SequentialRun.{IsNumbered, IsSeqRefusal, IsSequentialRun}
use Rattle.ob_object_calls.specs.declared.sequential.SeqTextFault.TheVariants as Runs
use Rattle.ob_answer_explained.proofs.explaining.explain_calls.Goals as goal

pub returns-in_ok-from_str-in-Ok : goal.returns-in_ok-from_str-in-Ok
returns-in_ok-from_str-in-Ok c whole is =
    let t = calls_texts_of c.args.calls in
    let of = holds_of_whole Runs.Compile t.asked (λ text. IsSequentialRun (of_text t.asked text) t.script (string_bytes c.in-Ok._lines)) _ whole is c.in-Ok.ensures.at_once c.in-Ok.ensures.run in
    let text : string_bytes c.in_ok-from_str-in-Ok.field-0 ≡ codes "ok\n" = search rules in
    right (string_bytes c.in-Ok._lines, of) (rw (← text) c.printed.ensures)

pub returns-in-Err : goal.returns-in-Err
returns-in-Err c =
    let t = calls_texts_of c.args.calls in
    wrong_made Runs.Compile t.asked (λ text. IsSeqRefusal (of_text t.asked text) t.script) (λ text. IsCallsFaultShown (calls_of_text t text)) c.in-Err.fault
    c.in-Err.ensures.at_once (λ whole. calls_refused (of_text t.asked whole) t.script) (calls_shown t)
    (λ text. HasRun (of_text t.asked text) t.script) IsNumbered c.calls_wrong.result c.calls_wrong.ensures.fault
    (IfOk-weaker c.calls_wrong.result _ _ (λ _ known. (known, c.in-Err.ensures.refused.memory)) c.calls_wrong.ensures.memory) c.in-Err.ensures.refused
