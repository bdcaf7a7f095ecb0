-- What is found of the parts of a history, where processes and calls go by small numbers.
use Rattle.std.specs.Prelude.{◌≡◌, ◌⊎◌, ℕ, ◌<◌, List, Some, length, map, slice_get}
use Rattle.ob_object_run.specs.LegalOrder.{CallEnds}
use Rattle.ob_object_search.specs.Found.{IsEnoughHere}
use Rattle.ob_object_search.specs.SearchFaults.{CeasesAt}
use Rattle.ob_object_search.specs.Parted.{PartOrder}
use Rattle.ob_object_search.specs.Parted as Parted
use Rattle.ob_object_search.specs.declared.fault.PartsFault.{PartsFault}
use Rattle.ob_object_search.specs.declared.fault.PartsFault.TheVariants as Faults
use Rattle.ob_meaning.specs.ByPositionStore.{Activation}
use Rattle.ob_text_reading.specs.Names.{AreBelow, named_all, named_id}
use Rattle.ob_typing.specs.Program.{Program}
use Rattle.wf_history.specs.declared.event.CallId.{CallId}
use Rattle.wf_history.specs.Legal.{IsLegal}
use Rattle.wf_needed.specs.Needed.{NoneIsNeedless}
use Rattle.wf_order.specs.Verdict.{HasMoreFront}
use Rattle.wf_parts.specs.Numbering.{AreNumbered, PartView, value_of, whole_events, whole_id}
use Rattle.wf_parts.specs.Parts.{Events, IsShort}

-- a part by the names that the history has for processes, and a call of it
abbrev pub named_part : List ℕ → PartView → Events
named_part names p = named_all names (whole_events p.rows p.events)

abbrev pub named_call : List ℕ → List (List ℕ) → CallId → CallId
named_call names rows id = named_id names (whole_id rows id)

-- a part of a history with so many names
pub record IsPartHere (names : List ℕ) (p : PartView) : Type 0 where
  pub numbered : AreNumbered p.rows p.events
  pub below : AreBelow (length names) p.events

-- the first call that has no such argument
abbrev pub IsShortHere : Events → (names : List ℕ) → (by : ℕ) → PartsFault → Type 0
IsShortHere events names by (Faults.Text e) = ⊥
IsShortHere events names by (Faults.Form line) = ⊥
IsShortHere events names by (Faults.Open e) = ⊥
IsShortHere events names by (Faults.Short id) = (own : CallId) × IsShort by events own × (id ≡ named_id names own)
IsShortHere events names by (Faults.Illegal id value) = ⊥
IsShortHere events names by Faults.TooMany = ⊥
IsShortHere events names by Faults.NoMemory = Unit {0}

-- so many configurations are enough for each part
abbrev pub AreEnoughHere : List PartView → (names : List ℕ) → (most : ℕ) → Type 0
AreEnoughHere parts names most = (k : ℕ) (p : PartView) → slice_get parts k ≡ Some p → IsEnoughHere p.events names most

-- a part of a history with so many names, at each place
abbrev pub ArePartsHere : List ℕ → List PartView → Type 0
ArePartsHere names parts = (k : ℕ) (p : PartView) → slice_get parts k ≡ Some p → IsPartHere names p

-- by what calls with a budget do from a state
module _ (program : Program) (budget : ℕ) (opening : Activation) (names : List ℕ) where
  -- the order is a legal order of the part
  abbrev pub HasOrderHere : PartView → List CallId → Type 0
  HasOrderHere p order = (last : Activation) × IsLegal (CallEnds program budget) opening (named_part names p) order last

  -- and no open call of it can be left out
  abbrev pub IsFoundHere : PartView → List CallId → Type 0
  IsFoundHere p order = HasOrderHere p order × NoneIsNeedless (CallEnds program budget) opening (named_part names p) order

  -- why a part has none
  abbrev pub IsPartFault : (most : ℕ) → PartView → PartsFault → Type 0
  IsPartFault most p (Faults.Text e) = ⊥
  IsPartFault most p (Faults.Form line) = ⊥
  IsPartFault most p (Faults.Open e) = ⊥
  IsPartFault most p (Faults.Short id) = ⊥
  IsPartFault most p (Faults.Illegal id value) = (value ≡ p.value) × CeasesAt (CallEnds program budget) opening (named_part names p) id
  IsPartFault most p Faults.TooMany = (processes : ℕ) × HasMoreFront (CallEnds program budget) opening p.events processes most
  IsPartFault most p Faults.NoMemory = Unit {0}

  -- each part has its order
  pub record AreOrdersHere (parts : List PartView) (found : List PartOrder) : Type 0 where
    pub values : map Parted.value_of found ≡ map value_of parts
    pub each : (k : ℕ) (p : PartView) (o : PartOrder) → slice_get parts k ≡ Some p → slice_get found k ≡ Some o → IsFoundHere p o.order

  -- the first part that has none
  pub record IsFirstFault (most : ℕ) (parts : List PartView) (e : PartsFault) : Type 0 where
    pub place : ℕ
    pub part : PartView
    pub at : slice_get parts place ≡ Some part
    pub earlier : (k : ℕ) (p : PartView) → k < place → slice_get parts k ≡ Some p → (order : List CallId) × HasOrderHere p order
    pub fault : IsPartFault most part e

  abbrev pub IsFaultHere : (most : ℕ) → List PartView → PartsFault → Type 0
  IsFaultHere most parts e = (e ≡ Faults.NoMemory) ⊎ IsFirstFault most parts e
