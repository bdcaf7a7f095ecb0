-- What `outcomes --whole` answers, of an object that is asked for and the bytes of a script.
use Rattle.std.specs.Prelude.{◌≡◌, ℕ, List, Option, IfSome}
use Rattle.ob_answer_files.specs.Printed.{IsTextAnswer}
use Rattle.ob_answer_files.specs.declared.answered.Answer.{Answer}
use Rattle.ob_answer_searches.specs.OutcomesAnswers.{IsNumbered, Looking}
use Rattle.ob_answer_searches.specs.OutcomesFaultLines.{outcomes_fault_line}
use Rattle.ob_answer_searches.specs.WholeLines.{whole_lines}
use Rattle.ob_command.specs.CommandLine.{Text}
use Rattle.ob_interface.specs.Call.{Reply}
use Rattle.ob_object_compile.specs.Asked.{Asked}
use Rattle.ob_object_outcomes.specs.Outcomes.{HoldsAlways}
use Rattle.ob_object_outcomes.specs.Scripted.{ScriptedParts}
use Rattle.ob_object_outcomes.specs.Wholes.{AreWholesOf, IsWholesFault}
use Rattle.ob_meaning.specs.ByPositionStore.{Activation}
use Rattle.wf_whole_outcomes.specs.Wholes.{WholeTold}

module _ (always : Option Text) (most : ℕ) (a : Asked) (script_bytes : List ℕ) where
  -- the lines of the whole outcomes; the export that is named always answers TRUE
  pub record SaysWholes (text : Text) : Type 0 where
    pub scripted : ScriptedParts
    pub wholes : List (WholeTold Activation Reply)
    pub are : AreWholesOf a script_bytes scripted wholes
    pub holds : IfSome always (HoldsAlways a script_bytes scripted)
    pub prints : text ≡ whole_lines scripted.object.program.variables wholes

  abbrev pub AreWholesAnswered : Answer → Type 0
  AreWholesAnswered =
      IsTextAnswer SaysWholes (λ e. IsWholesFault a script_bytes always most e × IsNumbered e) (outcomes_fault_line a.beginning)

-- the same of what is asked
abbrev pub IsWholesAnswer : Looking → Asked → (script_bytes : List ℕ) → Answer → Type 0
IsWholesAnswer l = AreWholesAnswered l.always l.most
