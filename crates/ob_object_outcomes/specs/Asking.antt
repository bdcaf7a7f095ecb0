-- What is asked of each state, and where that fails.
use Rattle.std.specs.Prelude.{◌≡◌, ℕ, List, Option, Some, None}
use Rattle.ob_checked.specs.Exports.{signatures}
use Rattle.ob_interface.specs.Call.{ObjectCall, Reply}
use Rattle.ob_object_outcomes.specs.OutcomesFaults.{AsksNothing}
use Rattle.ob_object_outcomes.specs.Questions.{FailsFirst, Holds, IsQuestion}
use Rattle.ob_object_outcomes.specs.Scripted.{ScriptedParts}
use Rattle.ob_object_outcomes.specs.declared.finding.OutcomesFault.{OutcomesFault}
use Rattle.ob_object_outcomes.specs.declared.finding.OutcomesFault.TheVariants as Faults
use Rattle.ob_text_words.specs.Words.{Word}

-- by which export states are asked, where a name is given
abbrev pub IsAsked : ScriptedParts → Option Word → Option ℕ → Type 0
IsAsked s None None = Unit {0}
IsAsked s None (Some number) = ⊥
IsAsked s (Some name) None = ⊥
IsAsked s (Some name) (Some number) = IsQuestion (signatures s.object.program) name number

-- the fault is that of a name that is no question
abbrev pub SaysNoQuestion : ScriptedParts → Option Word → OutcomesFault → Type 0
SaysNoQuestion s asked Faults.NoQuestion = AsksNothing s asked
SaysNoQuestion s asked _ = ⊥

-- the fault tells calls that first lead to where the question fails
abbrev pub IsFailing : {State : Type 0} → (ObjectCall → State → State → Reply → Type 0) → List (List ObjectCall) → State → Option ℕ → OutcomesFault → Type 0
IsFailing Effect scripts opening question (Faults.NotAlways path) = (number : ℕ) × (question ≡ Some number) × ∥ FailsFirst Effect scripts opening (Holds Effect number) path.items ∥₁
IsFailing Effect scripts opening question Faults.NoMemory = Unit {0}
IsFailing Effect scripts opening question _ = ⊥
