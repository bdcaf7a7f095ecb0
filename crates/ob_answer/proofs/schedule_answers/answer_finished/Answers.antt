use Rattle.std.proofs.Common.{◌∷◌, ℕ, List, subst}
use Rattle.std.proofs.lemmas.Result.{IfOk-weaker}
use Rattle.ob_answer.specs.Answers.{IsRunMade}
use Rattle.ob_text_scripts.specs.Finish.{IsFinished}
use Rattle.ob_answer.specs.declared.printed_forms.Product.{Product}
use Rattle.ob_answer_files.specs.Reads.{record_in_run}
use Rattle.ob_command.specs.Commands.{run_request_of}
use Rattle.ob_answer.proofs.schedule_answers.answer_finished.Goals as goal

pub returns : goal.returns
returns c =
    let run = run_request_of c.args.run in
    let bytes = c.args.bytes in
    let items = c.in_ok-finished.finished.items in
    let finished : IsFinished bytes.schedule.items bytes.script.items items =
    subst (λ (s : List ℕ). IsFinished s bytes.script.items items) c.deref.ensures.value
    (subst (λ (s : List ℕ). IsFinished c.deref.result.now s items) c.deref-2.ensures.value c.in_ok-finished.ensures) in
    IfOk-weaker c.answer_run.result _ _ (λ a h whole is. (
      c.in_ok-finished.finished.items,
      finished,
      subst (λ (p : Product). IsRunMade p run (whole ∷ bytes.script.items ∷ c.in_ok-finished.finished.items ∷ record_in_run bytes) a) c.product_of.ensures (h whole is),
    ))
    c.answer_run.ensures
