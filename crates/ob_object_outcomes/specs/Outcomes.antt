-- All outcomes of the calls of scripts on a module's object, from bytes: by what the calls mean by name.
use Rattle.std.specs.Prelude.{ℕ, List}
use Rattle.ob_meaning.specs.Same.{SameState}
use Rattle.ob_checked.specs.Exports.{signatures}
use Rattle.ob_code_correct.specs.Named.{CallMeans}
use Rattle.ob_object_compile.specs.Asked.{Asked}
use Rattle.ob_object_run.specs.LegalOrder.{CallEnds}
use Rattle.ob_object_outcomes.specs.Questions.{Holds, IsQuestion}
use Rattle.ob_object_outcomes.specs.Scripted.{ScriptedParts, IsScripted}
use Rattle.ob_object_outcomes.specs.OutcomesView.{Outcomes}
use Rattle.ob_text_words.specs.Words.{Word}
use Rattle.wf_outcomes.specs.Outcomes.{AlwaysGood}
use Rattle.wf_outcomes.specs.OutcomeOrders.{AreOutcomes, IsItself}

-- ---- of an object with scripts, where variables go by their positions

-- these are the replies that each call may have, and the states in which all calls may end
abbrev pub ArePlaced : ScriptedParts → Outcomes → Type 0
ArePlaced s o = AreOutcomes IsItself (CallEnds s.object.program s.object.engine.budget) s.scripts s.object.opening o.calls o.ends

-- the question of this number is answered by TRUE at the opening and behind each call in each merge
abbrev pub AlwaysPlaced : ScriptedParts → (number : ℕ) → Type 0
AlwaysPlaced s number =
    ∥ AlwaysGood (CallEnds s.object.program s.object.engine.budget) s.scripts s.object.opening (Holds (CallEnds s.object.program s.object.engine.budget) number) ∥₁

-- the name is that of a question that is always answered by TRUE
pub record AlwaysHere (s : ScriptedParts) (name : Word) : Type 0 where
  pub number : ℕ
  pub question : IsQuestion (signatures s.object.program) name number
  pub always : AlwaysPlaced s number

-- ---- from bytes, by what calls mean by name, each with the budget, from the state with which the object begins

module _ (a : Asked) (script : List ℕ) (s : ScriptedParts) where
  -- the object is the one that is asked for, with the calls of the script, and these are their outcomes
  pub record AreOutcomesOf (o : Outcomes) : Type 0 where
    pub scripted : IsScripted a script s
    pub outcomes : AreOutcomes (SameState s.object.program) (CallMeans s.object.program a.budget) s.scripts scripted.compiled.opens.state o.calls o.ends

  -- the name is that of a question, and in each merge of the calls, whether it is ended or not, it is answered by TRUE at the opening
  -- and behind each call
  pub record HoldsAlways (name : Word) : Type 0 where
    pub scripted : IsScripted a script s
    pub number : ℕ
    pub question : IsQuestion (signatures s.object.program) name number
    pub always : ∥ AlwaysGood (CallMeans s.object.program a.budget) s.scripts scripted.compiled.opens.state (Holds (CallMeans s.object.program a.budget) number) ∥₁
