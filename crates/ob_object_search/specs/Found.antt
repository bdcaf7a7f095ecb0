-- What is found of a history, where processes go by small numbers and have these names.
use Rattle.std.specs.Prelude.{ℕ, ◌≤◌, List, length}
use Rattle.ob_interface.specs.Call.{ObjectCall, Reply}
use Rattle.ob_object_run.specs.LegalOrder.{CallEnds}
use Rattle.ob_object_search.specs.SearchFaults.{CeasesAt}
use Rattle.ob_object_search.specs.declared.searching.SearchFault.{SearchFault}
use Rattle.ob_object_search.specs.declared.searching.SearchFault.TheVariants as Faults
use Rattle.ob_meaning.specs.ByPositionStore.{Activation}
use Rattle.ob_text_reading.specs.Names.{named_all}
use Rattle.ob_typing.specs.Program.{Program}
use Rattle.wf_history.specs.declared.event.CallId.{CallId}
use Rattle.wf_history.specs.History.{Event}
use Rattle.wf_history.specs.Legal.{IsLegal}
use Rattle.wf_needed.specs.Needed.{NoneIsNeedless}
use Rattle.wf_order.specs.Verdict.{HasMoreFront, enough}

-- by what calls with a budget do from a state
module _ (program : Program) (budget : ℕ) (opening : Activation) (history : List (Event ObjectCall Reply)) (names : List ℕ) where
  -- the order is legal by the names
  abbrev pub HasOrderHere : List CallId → Type 0
  HasOrderHere order = (last : Activation) × IsLegal (CallEnds program budget) opening (named_all names history) order last

  -- and no open call of it can be left out
  abbrev pub IsNeededHere : List CallId → Type 0
  IsNeededHere order = NoneIsNeedless (CallEnds program budget) opening (named_all names history) order

  -- why there is none
  abbrev pub IsFaultHere : (most : ℕ) → SearchFault → Type 0
  IsFaultHere most (Faults.Text e) = ⊥
  IsFaultHere most (Faults.Form line) = ⊥
  IsFaultHere most (Faults.Open e) = ⊥
  IsFaultHere most (Faults.Illegal id) = CeasesAt (CallEnds program budget) opening (named_all names history) id
  IsFaultHere most Faults.TooMany = (processes : ℕ) × HasMoreFront (CallEnds program budget) opening history processes most
  IsFaultHere most Faults.NoMemory = Unit {0}

-- so many configurations are enough
abbrev pub IsEnoughHere : (history : List (Event ObjectCall Reply)) (names : List ℕ) (most : ℕ) → Type 0
IsEnoughHere history names most = enough (length names) (length history) ≤ most
