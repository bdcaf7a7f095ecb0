-- What `outcomes` answers, of an object that is asked for and the bytes of a script.
use Rattle.std.specs.Prelude.{◌≡◌, ◌≢◌, ℕ, List, Option, IfSome, option_map}
use Rattle.ob_answer_files.specs.Printed.{IsTextAnswer}
use Rattle.ob_answer_files.specs.declared.answered.Answer.{Answer}
use Rattle.ob_answer_searches.specs.OutcomesFaultLines.{outcomes_fault_line}
use Rattle.ob_answer_searches.specs.declared.outcomes_answers.Looking as Rust
use Rattle.ob_command.specs.CommandLine.{Text}
use Rattle.ob_object_compile.specs.Asked.{Asked}
use Rattle.ob_object_outcomes.specs.Outcomes.{AreOutcomesOf, HoldsAlways}
use Rattle.ob_object_outcomes.specs.OutcomesFaults.{IsOutcomesFault}
use Rattle.ob_object_outcomes.specs.Scripted.{ScriptedParts}
use Rattle.ob_object_outcomes.specs.OutcomesView.{Outcomes}
use Rattle.ob_object_outcomes.specs.declared.finding.OutcomesFault.{OutcomesFault}
use Rattle.ob_object_outcomes.specs.declared.finding.OutcomesFault.TheVariants as Faults
use Rattle.ob_object_outcomes.specs.OutcomeLines.{outcome_lines}

-- what is asked of all runs: the name of the export that is to answer TRUE always, and how many configurations are looked at at most
pub record Looking : Type 0 where
  pub always : Option Text
  pub most : ℕ

abbrev pub looking_of : Rust.Looking → Looking
looking_of l = record { always = option_map (λ name. name.now) l.always; most = l.most }

-- a fault with a number, so no want of memory
abbrev pub IsNumbered : OutcomesFault → Type 0
IsNumbered e = e ≢ Faults.NoMemory

module _ (always : Option Text) (most : ℕ) (a : Asked) (script_bytes : List ℕ) where
  -- the lines of what each call may answer and how all may end; the export that is named always answers TRUE
  pub record SaysReplies (text : Text) : Type 0 where
    pub scripted : ScriptedParts
    pub outcomes : Outcomes
    pub are : AreOutcomesOf a script_bytes scripted outcomes
    pub holds : IfSome always (HoldsAlways a script_bytes scripted)
    pub prints : text ≡ outcome_lines scripted.object.program.variables outcomes

  abbrev pub AreRepliesAnswered : Answer → Type 0
  AreRepliesAnswered =
      IsTextAnswer SaysReplies (λ e. IsOutcomesFault a script_bytes always most e × IsNumbered e) (outcomes_fault_line a.beginning)

-- the same of what is asked
abbrev pub IsOutcomesAnswer : Looking → Asked → (script_bytes : List ℕ) → Answer → Type 0
IsOutcomesAnswer l = AreRepliesAnswered l.always l.most
