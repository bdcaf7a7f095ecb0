-- From the code's behaviour to that of a body.
use Rattle.std.proofs.Common.{◌≡◌, ◌≢◌, ℕ, ◌+◌, ◌≤◌, leb, true, false, cond, pos, List, length, replicate, Some, refl, sym, ap, ◌∙◌, subst, length-append, arith}
use Rattle.std.specs.Prelude.{slice_get}
use Rattle.std.proofs.lemmas.List.{length-replicate}
use Rattle.std.proofs.lemmas.Bool.Decides.{nat_tests}
use Rattle.ob_interface.specs.declared.scalar.Scalar.{Scalar}
use Rattle.ob_interface.specs.Call.{Reply, Answers, Trapped as TrapReply}
use Rattle.ob_typing.specs.Program.{Procedure, Program}
use Rattle.ob_meaning.specs.ByPositionStore.{Activation}
use Rattle.ob_meaning.specs.ByPositionObject.{Effect}
use Rattle.ob_code_machine.specs.Machine.{Outcome, Unfinished, Returned, Trapped, Stuck}
use Rattle.ob_code_machine.specs.Code.{CodeParts}
use Rattle.ob_code_machine.specs.declared.argument.Argument.{Argument}
use Rattle.ob_code_machine.specs.declared.turn.BodyTurn.TheVariants as Turns
use Rattle.ob_code_machine.specs.Body.{Run, Step, result_count, handed, enter, empty, entered, steps}
use Rattle.ob_code_machine.specs.Laws.{IsOver, HasCome}
use Rattle.ob_code_machine.proofs.Steps.{steps_stand}
use Rattle.ob_code_machine.proofs.Handed.{length-handed}
use Rattle.ob_code_scheme.specs.Temporaries.{stack_words}
use Rattle.ob_code_scheme.specs.Layout.{encoded, variable_words}
use Rattle.ob_code_scheme.specs.Scheme.{code_of, entry_of}
use Rattle.ob_code_scheme.specs.Correct.{arguments_of, beginning, end_with, after, Behaves}
use Rattle.ob_code_correct.proofs.PlacingOwed.{code_placed}
use Rattle.ob_code_correct.specs.Bodies.{HasEnded, started, stepped, meant, BodyBehaves, BodiesAreCorrect}
use Rattle.ob_code_correct.proofs.Law.{code_correct}

-- ---- the start

-- a body at the entry of its procedure
abbrev going : (reserve entry variables : ℕ) → List Argument → (budget : ℕ) → Run
going reserve entry variables arguments budget =
    record { reserve = reserve; is_over = false; body = enter entry variables arguments budget }

entered_at : (reserve entry variables : ℕ) (arguments : List Argument) (budget : ℕ) → length (enter entry variables arguments budget).stack ≤ reserve
    → entered reserve variables (Some entry) arguments budget ≡ going reserve entry variables arguments budget
entered_at reserve entry variables arguments budget room =
    let joined = length-append (replicate (result_count arguments) (pos 0)) (handed variables 0 arguments) in
    let zeros = length-replicate (result_count arguments) (pos 0) in
    let words = length-handed variables 0 arguments in
    let within : result_count arguments + length arguments ≤ reserve = omega (arith, joined, zeros, words, room) in
    let fits : leb (result_count arguments + length arguments) reserve ≡ true = grind (arith, nat_tests) in
    ap (λ b. cond b (going reserve entry variables arguments budget) (record { reserve = reserve; is_over = true; body = empty })) fits

-- ---- an end, as a step shows it

-- where the body is over, the machine is
over_at : (reserve : ℕ) (o : Outcome) (s : Step) → HasCome reserve o s → s.turn ≢ Turns.On → IsOver o
over_at reserve (Unfinished c) s h off = absurd (off (ap (λ (s : Step). s.turn) h))
over_at reserve (Returned block stack) s h off = tt
over_at reserve (Trapped k) s h off = tt
over_at reserve Stuck s h off = tt

-- where the machine is over, the body is
off_at : (reserve : ℕ) (o : Outcome) (s : Step) → HasCome reserve o s → IsOver o → s.turn ≢ Turns.On
off_at reserve (Unfinished c) s h over on = absurd over
off_at reserve (Returned block stack) s h over on = let e = h.0 in absurd (cc)
off_at reserve (Trapped k) s h over on = absurd (cc)
off_at reserve Stuck s h over on = absurd (cc)

ended_at : (reserve : ℕ) (state : Activation) (reply : Reply) (s : Step) → HasCome reserve (end_with state reply) s → HasEnded s state reply
ended_at reserve state (Answers values) s h = h
ended_at reserve state (TrapReply k) s h = h

-- ---- a call

module _ (program : Program) (code : CodeParts) (reserve i entry : ℕ) (p : Procedure) (state : Activation) (arguments : List Scalar) (budget : ℕ) where
  abbrev step_at : ℕ → Step
  step_at = stepped program code reserve i p state arguments budget

  abbrev outcome_at : ℕ → Outcome
  outcome_at = after program code.instructions reserve entry p state arguments budget

  abbrev effect_at : Effect
  effect_at = meant program code reserve i p state arguments budget

  module _ (begins : slice_get code.entries i ≡ Some entry) (behaves : Behaves program code.instructions reserve entry p state arguments budget) where
    begun : started program code reserve i p state arguments budget ≡ going reserve entry (variable_words program.variables) (arguments_of p.parameters arguments) budget
    begun =
        ap (λ o. entered reserve (variable_words program.variables) o (arguments_of p.parameters arguments) budget) begins
        ∙ entered_at reserve entry (variable_words program.variables) (arguments_of p.parameters arguments) budget
        (behaves.within 0 (beginning entry program.variables p.parameters state arguments budget) refl)

    come : (count : ℕ) → HasCome reserve (outcome_at count) (step_at count)
    come count =
        subst (λ (run : Run). HasCome reserve (outcome_at count) (steps code.instructions count run (encoded state))) (sym begun)
        (steps_stand code.instructions reserve count (enter entry (variable_words program.variables) (arguments_of p.parameters arguments) budget) (encoded state))

    body_behaves : BodyBehaves program code reserve i p state arguments budget
    body_behaves = record {
      ends_so = λ count off.
          let over = over_at reserve (outcome_at count) (step_at count) (come count) off in
          ended_at reserve effect_at.state effect_at.reply (step_at count)
          (subst (λ (o : Outcome). HasCome reserve o (step_at count)) (behaves.ends_so count over) (come count));
      ends = λ count le. off_at reserve (outcome_at count) (step_at count) (come count) (behaves.ends count le);
      state_fits = behaves.state_fits;
      reply_fits = behaves.reply_fits;
    }

pub bodies_correct : BodiesAreCorrect
bodies_correct program i p well here exported state arguments budget typed fit =
    let entry = entry_of program.procedures i in
    let begins = code_placed.entries_are program i p here in
    body_behaves program (code_of program) (stack_words program.procedures) i entry p state arguments budget begins
    (code_correct program well i p entry here exported begins state arguments budget typed fit)
