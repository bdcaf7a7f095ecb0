-- All whole outcomes of the calls of scripts on a module's object.
use Rattle.std.specs.Prelude.{ℕ, List, Option}
use Rattle.ob_meaning.specs.Same.{SameState}
use Rattle.ob_code_correct.specs.Named.{CallMeans}
use Rattle.ob_interface.specs.Call.{ObjectCall, Reply}
use Rattle.ob_object_compile.specs.Asked.{Asked}
use Rattle.ob_object_run.specs.LegalOrder.{CallEnds}
use Rattle.ob_object_outcomes.specs.Asking.{IsFailing}
use Rattle.ob_object_outcomes.specs.OutcomesFaults.{IsFaultAt, IsFaultOf}
use Rattle.ob_object_outcomes.specs.Scripted.{ScriptedParts, IsScripted}
use Rattle.ob_object_outcomes.specs.declared.finding.OutcomesFault.{OutcomesFault}
use Rattle.ob_object_outcomes.specs.declared.finding.OutcomesFault.TheVariants as Faults
use Rattle.ob_meaning.specs.ByPositionStore.{Activation}
use Rattle.ob_text_words.specs.Words.{Word}
use Rattle.wf_outcomes.specs.OutcomeOrders.{IsItself}
use Rattle.wf_whole_outcomes.specs.Tellings.{HasMoreTold}
use Rattle.wf_whole_outcomes.specs.Wholes.{AreWholes, WholeTold}

-- ---- of an object with scripts, where variables go by their positions

-- these are the whole outcomes, with the first orders that give them
abbrev pub AreWholesPlaced : ScriptedParts → List (WholeTold Activation Reply) → Type 0
AreWholesPlaced s wholes = ∥ AreWholes IsItself (CallEnds s.object.program s.object.engine.budget) s.scripts s.object.opening wholes ∥₁

-- more lists of replies than so many, each with its state, can be told on the way
abbrev pub HasManyTold : ScriptedParts → (most : ℕ) → Type 0
HasManyTold s most = ∥ HasMoreTold (CallEnds s.object.program s.object.engine.budget) s.scripts s.object.opening most ∥₁

-- the question fails first behind the calls that the fault tells, or it says that there are more such lists
abbrev pub IsWholesTrouble : {State : Type 0} → (ObjectCall → State → State → Reply → Type 0) → List (List ObjectCall) → State → Option ℕ → (most : ℕ) → OutcomesFault → Type 0
IsWholesTrouble Effect scripts opening question most Faults.TooMany = ∥ HasMoreTold Effect scripts opening most ∥₁
IsWholesTrouble Effect scripts opening question most e = IsFailing Effect scripts opening question e

abbrev pub IsWholesFaultHere : ScriptedParts → Option Word → (most : ℕ) → OutcomesFault → Type 0
IsWholesFaultHere s asked most = IsFaultAt s asked (HasManyTold s most)

-- ---- from bytes, by what calls mean by name, each with the budget, from the state with which the object begins

-- the object is the one that is asked for, with the calls of the script, and these are their whole outcomes
pub record AreWholesOf (a : Asked) (script : List ℕ) (s : ScriptedParts) (found : List (WholeTold Activation Reply)) : Type 0 where
  pub scripted : IsScripted a script s
  pub wholes : ∥ AreWholes (SameState s.object.program) (CallMeans s.object.program a.budget) s.scripts scripted.compiled.opens.state found ∥₁

-- there are an object and a script, and more than so many lists of replies, each with its state, can be told on the way, where variables
-- go by their positions
pub record HasTooManyTold (a : Asked) (script : List ℕ) (most : ℕ) : Type 0 where
  pub parts : ScriptedParts
  pub scripted : IsScripted a script parts
  pub many : HasManyTold parts most

-- what each fault says
abbrev pub IsWholesFault : Asked → (script : List ℕ) → Option Word → (most : ℕ) → OutcomesFault → Type 0
IsWholesFault a script asked most = IsFaultOf a script asked most (HasTooManyTold a script most)
