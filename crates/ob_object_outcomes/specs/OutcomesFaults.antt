-- Why outcomes are not told, and what each fault says.
use Rattle.std.specs.Prelude.{◌≡◌, ◌≢◌, ℕ, List, Option, Some}
use Rattle.ob_checked.specs.Exports.{signatures}
use Rattle.ob_code_correct.specs.Named.{CallMeans}
use Rattle.ob_object_compile.specs.Asked.{Asked}
use Rattle.ob_object_run.specs.LegalOrder.{CallEnds}
use Rattle.ob_object_outcomes.specs.Questions.{FailsFirst, Holds, IsQuestion}
use Rattle.ob_object_outcomes.specs.Scripted.{ScriptedParts, IsScripted}
use Rattle.ob_object_outcomes.specs.declared.finding.OutcomesFault.{OutcomesFault}
use Rattle.ob_object_outcomes.specs.declared.finding.OutcomesFault.TheVariants as Faults
use Rattle.ob_object_calls.specs.SequentialRun.{IsSeqRefusal}
use Rattle.ob_object_calls.specs.declared.sequential.SeqTextFault.{SeqTextFault}
use Rattle.ob_object_calls.specs.declared.sequential.SeqTextFault.TheVariants as Seq
use Rattle.ob_text_words.specs.Words.{Word}
use Rattle.wf_history.specs.declared.event.CallId.{CallId}
use Rattle.wf_outcomes.specs.Explored.{HasMore}
use Rattle.wf_outcomes.specs.declared.exploring.ExploreFault.{ExploreFault}
use Rattle.wf_outcomes.specs.declared.exploring.ExploreFault.TheVariants as Explore

-- want of memory is told in one place
abbrev pub of_texts : SeqTextFault → OutcomesFault
of_texts Seq.NoMemory = Faults.NoMemory
of_texts e = Faults.Texts e

abbrev pub of_exploring : ExploreFault → OutcomesFault
of_exploring Explore.TooMany = Faults.TooMany
of_exploring Explore.NoMemory = Faults.NoMemory

-- ---- of an object with scripts, where variables go by their positions

module _ (s : ScriptedParts) (asked : Option Word) where
  -- what is asked for is no question
  pub record AsksNothing : Type 0 where
    pub name : Word
    pub is : asked ≡ Some name
    pub none : (number : ℕ) → ¬ IsQuestion (signatures s.object.program) name number

  -- more configurations than so many can be reached
  abbrev pub HasMany : (most : ℕ) → Type 0
  HasMany most = HasMore (CallEnds s.object.program s.object.engine.budget) s.scripts s.object.opening most

  -- the question that is asked fails first behind these calls
  pub record FailsHere (path : List CallId) : Type 0 where
    pub name : Word
    pub is : asked ≡ Some name
    pub number : ℕ
    pub question : IsQuestion (signatures s.object.program) name number
    pub first : ∥ FailsFirst (CallEnds s.object.program s.object.engine.budget) s.scripts s.object.opening (Holds (CallEnds s.object.program s.object.engine.budget) number) path ∥₁

  -- what each fault says, where X2 says this
  abbrev pub IsFaultAt : (Many : Type 0) → OutcomesFault → Type 0
  IsFaultAt Many (Faults.Texts e) = ⊥
  IsFaultAt Many Faults.NoQuestion = AsksNothing
  IsFaultAt Many Faults.TooMany = Many
  IsFaultAt Many (Faults.NotAlways path) = FailsHere path.items
  IsFaultAt Many Faults.NoMemory = Unit {0}

  abbrev pub IsFaultHere : (most : ℕ) → OutcomesFault → Type 0
  IsFaultHere most = IsFaultAt (HasMany most)

-- ---- from bytes, by what calls mean by name

module _ (a : Asked) (script : List ℕ) (asked : Option Word) (most : ℕ) where
  -- there are an object and a script, and what is asked for is no question
  pub record HasNoQuestion : Type 0 where
    pub parts : ScriptedParts
    pub scripted : IsScripted a script parts
    pub asks : AsksNothing parts asked

  -- there are an object and a script, with more configurations than so many, where variables go by their positions
  pub record HasTooMany : Type 0 where
    pub parts : ScriptedParts
    pub scripted : IsScripted a script parts
    pub many : HasMany parts asked most

  -- There are an object and a script, and these calls lead, in a merge, to where the question that is asked is answered by FALSE or traps.
  -- No fewer calls do.
  pub record IsNotAlways (path : List CallId) : Type 0 where
    pub parts : ScriptedParts
    pub scripted : IsScripted a script parts
    pub name : Word
    pub is : asked ≡ Some name
    pub number : ℕ
    pub question : IsQuestion (signatures parts.object.program) name number
    pub first : ∥ FailsFirst (CallMeans parts.object.program a.budget) parts.scripts scripted.compiled.opens.state (Holds (CallMeans parts.object.program a.budget) number) path ∥₁

  -- what each fault says, where X2 says this
  abbrev pub IsFaultOf : (Many : Type 0) → OutcomesFault → Type 0
  IsFaultOf Many (Faults.Texts e) = IsSeqRefusal a script e × (e ≢ Seq.NoMemory)
  IsFaultOf Many Faults.NoQuestion = HasNoQuestion
  IsFaultOf Many Faults.TooMany = Many
  IsFaultOf Many (Faults.NotAlways path) = IsNotAlways path.items
  IsFaultOf Many Faults.NoMemory = Unit {0}

  abbrev pub IsOutcomesFault : OutcomesFault → Type 0
  IsOutcomesFault = IsFaultOf HasTooMany
