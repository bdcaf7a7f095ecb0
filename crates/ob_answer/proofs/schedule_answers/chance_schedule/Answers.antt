use Rattle.std.proofs.Common.{Global, ℕ, List, Vec, string_bytes, subst, sym}
use Rattle.std.proofs.lemmas.Result.{IfOk-weaker}
use Rattle.ob_text_scripts.specs.Chance.{IsOfSteps}
use Rattle.ob_text_scripts.specs.Finish.{IsFinished}
use Rattle.ob_answer.proofs.schedule_answers.chance_schedule.Goals as goal

pub returns-then-run : goal.returns-then-run
returns-then-run c =
    let processes = c.args.run.calls.processes in
    let schedule = string_bytes c.in_ok-schedule.schedule in
    rw c.if-run.true
    (IfOk-weaker c.finished_schedule.result _ _ (λ text h. (
      schedule,
      subst (λ (steps : ℕ). IsOfSteps processes steps schedule) c.from.ensures c.in_ok-schedule.ensures,
      subst (λ (first : List ℕ). IsFinished first c.args.script.now text.items) c.as_bytes.ensures.value h,
    ))
    c.finished_schedule.ensures)

pub returns-else-run : goal.returns-else-run
returns-else-run c =
    let run = c.args.run in
    let processes = run.calls.processes in
    let of_steps = subst (λ (steps : ℕ). IsOfSteps processes steps (string_bytes c.in_ok-schedule.schedule)) c.from.ensures c.in_ok-schedule.ensures in
    rw c.if-run.false (subst (λ (made : Vec ℕ Global). IsOfSteps processes run.steps made.items) (sym c.into_bytes.ensures.value) of_steps)
