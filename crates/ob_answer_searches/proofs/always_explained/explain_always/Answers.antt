use Rattle.std.proofs.Common.{◌≡◌, Some, codes, rules, string_bytes}
use Rattle.ob_answer_explained.proofs.AtOnce.{holds_of_whole}
use Rattle.ob_answer_explained.proofs.Shown.{wrong_made}
use Rattle.ob_answer_explained.specs.CommandTexts.{calls_of_text, calls_texts_of, of_text}
use Rattle.ob_answer_explained.specs.Explains.{right}
use Rattle.ob_answer_searches.proofs.Answered.{always_shown, of_compiling, outcomes_refused}
use Rattle.ob_answer_searches.specs.ExplainedAlways.{HasAlways, IsAlwaysFaultShown}
use Rattle.ob_answer_searches.specs.OutcomesAnswers.{IsNumbered}
use Rattle.ob_command.specs.CommandLine.{default_most_reached}
use Rattle.ob_object_outcomes.specs.OutcomesFaults.{HasTooMany, IsOutcomesFault}
use Rattle.ob_object_outcomes.specs.Scripted.{scripted_in}
use Rattle.ob_answer_searches.proofs.always_explained.explain_always.Goals as goal

pub returns-in_ok-from_str-in-Ok-outcomes_text : goal.returns-in_ok-from_str-in-Ok-outcomes_text
returns-in_ok-from_str-in-Ok-outcomes_text g c whole is =
    let t = calls_texts_of c.args.calls in
    let same : c.as_bytes.result.now ≡ c.args.name.now = c.as_bytes.ensures.value in
    let of = holds_of_whole of_compiling t.asked (λ text. HasAlways (of_text t.asked text) t.script c.args.name.now) _ whole is c.in-Ok-outcomes_text.ensures.at_once
    (scripted_in c.in-Ok-outcomes_text._found.0, rw same at c.in-Ok-outcomes_text.ensures.always) in
    let text : string_bytes c.in_ok-from_str-in-Ok-outcomes_text.field-0 ≡ codes "ok\n" = search rules in
    right of (rw (← text) c.printed.ensures)

pub returns-in-Err : goal.returns-in-Err
returns-in-Err g c =
    let t = calls_texts_of c.args.calls in
    let name = c.args.name.now in
    let same : c.as_bytes.result.now ≡ name = c.as_bytes.ensures.value in
    wrong_made of_compiling t.asked (λ text. IsOutcomesFault (of_text t.asked text) t.script (Some name) default_most_reached) (λ text. IsAlwaysFaultShown (calls_of_text t text)) c.in-Err.fault
    c.in-Err.ensures.at_once
    (λ whole. outcomes_refused (of_text t.asked whole) t.script (Some name) default_most_reached (HasTooMany (of_text t.asked whole) t.script (Some name) default_most_reached))
    (always_shown t)
    (λ text. HasAlways (of_text t.asked text) t.script name) IsNumbered c.always_wrong.result c.always_wrong.ensures.fault c.always_wrong.ensures.memory
    (rw same at c.in-Err.ensures.fault)
