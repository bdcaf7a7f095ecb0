use Rattle.std.proofs.Common.{◌∙◌, ap, string_bytes}
use Rattle.ob_answer_explained.proofs.AtOnce.{holds_of_whole}
use Rattle.ob_answer_explained.specs.CommandTexts.{of_text}
use Rattle.ob_answer_files.specs.Printed.{said}
use Rattle.ob_answer_searches.proofs.Answered.{of_compiling, outcomes_refused, text_refused}
use Rattle.ob_answer_searches.specs.WholeLines.{whole_lines}
use Rattle.ob_answer_searches.specs.WholesAnswers.{SaysWholes}
use Rattle.ob_object_compile.specs.View.{asked_of}
use Rattle.ob_object_outcomes.specs.Wholes.{HasTooManyTold, IsWholesFault}
use Rattle.ob_object_outcomes.specs.Scripted.{scripted_in}
use Rattle.ob_object_outcomes.specs.OutcomesView.{always_in}
use Rattle.ob_object_outcomes.specs.WholesView.{outcomes_in}
use Rattle.ob_answer_searches.proofs.whole_answers.answer_wholes.Goals as goal

pub returns-in_ok-lines-in-Ok : goal.returns-in_ok-lines-in-Ok
returns-in_ok-lines-in-Ok c whole is =
    let a = asked_of c.args.asked in
    let b = c.args.bounds.now in
    said (string_bytes c.in_ok-lines-in-Ok.lines)
    (holds_of_whole of_compiling a (λ t. SaysWholes (always_in b) b.most (of_text a t) c.args.script.now (string_bytes c.in_ok-lines-in-Ok.lines)) _ whole is
    c.in-Ok.ensures.at_once (record {
      scripted = scripted_in c.in-Ok.scripted;
      wholes = outcomes_in c.in-Ok.wholes;
      are = c.in-Ok.ensures.wholes;
      holds = c.in-Ok.ensures.always;
      prints = c.in_ok-lines-in-Ok.ensures ∙ ap (λ p. whole_lines p.variables (outcomes_in c.in-Ok.wholes)) c.checked.ensures;
    }))
    c.printed.ensures

pub returns-in-Err : goal.returns-in-Err
returns-in-Err c =
    let a = asked_of c.args.asked in
    let b = c.args.bounds.now in
    let script = c.args.script.now in
    text_refused a (λ t. SaysWholes (always_in b) b.most (of_text a t) script) (λ t. IsWholesFault (of_text a t) script (always_in b) b.most) c.in-Err.fault
    c.outcomes_refused.result c.outcomes_refused.ensures.fault c.outcomes_refused.ensures.memory c.in-Err.ensures.at_once
    (λ whole. outcomes_refused (of_text a whole) script (always_in b) b.most (HasTooManyTold (of_text a whole) script b.most)) c.in-Err.ensures.fault
