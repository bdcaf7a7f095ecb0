use Rattle.std.proofs.Common.{◌∷◌, ℕ, List, subst}
use Rattle.std.proofs.lemmas.Result.{IfOk-weaker}
use Rattle.ob_answer.specs.Answers.{IsChanceSchedule, IsRunMade, run_by_chance}
use Rattle.ob_answer.specs.declared.printed_forms.Product.{Product}
use Rattle.ob_answer_files.specs.Reads.{record_in_calls}
use Rattle.ob_command.specs.Commands.{chance_request_of}
use Rattle.ob_answer.proofs.schedule_answers.answer_chance.Goals as goal

pub returns : goal.returns
returns c =
    let run = chance_request_of c.args.run in
    let bytes = c.args.bytes in
    let items = c.in_ok-schedule.schedule.items in
    let made : IsChanceSchedule run bytes.script.items items = subst (λ (s : List ℕ). IsChanceSchedule run s items) c.deref.ensures.value c.in_ok-schedule.ensures in
    IfOk-weaker c.answer_run.result _ _ (λ a h whole is. (
      c.in_ok-schedule.schedule.items,
      made,
      subst (λ (p : Product). IsRunMade p (run_by_chance run) (whole ∷ bytes.script.items ∷ c.in_ok-schedule.schedule.items ∷ record_in_calls bytes) a) c.product_of.ensures (h whole is),
    ))
    c.answer_run.ensures
