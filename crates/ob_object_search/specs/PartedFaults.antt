-- What each fault says of the bytes of a module and of a history.
use Rattle.std.specs.Prelude.{◌≡◌, ◌≢◌, ◌⊎◌, ◌<◌, ℕ, List, Option, Some, slice_get}
use Rattle.ob_check.specs.CheckedText.{IsNumberedText, IsTextFault}
use Rattle.ob_check.specs.declared.module_text.TextFault.{TextFault}
use Rattle.ob_check.specs.declared.module_text.TextFault.TheVariants as Text
use Rattle.ob_code_correct.specs.Named.{CallMeans}
use Rattle.ob_interface.specs.Call.{ObjectCall, Reply}
use Rattle.ob_interface.specs.declared.scalar.Scalar.{Scalar}
use Rattle.ob_mean.specs.declared.openings.OpenFault.{OpenFault}
use Rattle.ob_mean.specs.declared.openings.OpenFault.TheVariants as Open
use Rattle.ob_object_run.specs.LegalOrder.{CallEnds}
use Rattle.ob_object_search.specs.Searched.{HasBeginning, budget_of}
use Rattle.ob_object_search.specs.SearchFaults.{CeasesAt, HasOpenTrap}
use Rattle.ob_object_search.specs.Parted.{HasPartOrder}
use Rattle.ob_object_search.specs.declared.fault.PartsFault.{PartsFault}
use Rattle.ob_object_search.specs.declared.fault.PartsFault.TheVariants as Faults
use Rattle.ob_object_calls.specs.Beginnings.{BeginsNamed, BeginsPlaced, TrapsNamed}
use Rattle.ob_meaning.specs.ByPositionStore.{Activation}
use Rattle.ob_scan.specs.declared.fault.ScanFault.TheVariants as Scan
use Rattle.ob_text_reading.specs.HistoryLines.{IsHistoryFault}
use Rattle.ob_text_reading.specs.Names.{AreApart, named_all}
use Rattle.ob_text_reading.specs.declared.record_reading.RecordFault.{RecordFault}
use Rattle.ob_text_reading.specs.declared.record_reading.RecordFault.TheVariants as Reading
use Rattle.ob_typing.specs.ModuleText.{IsModule}
use Rattle.ob_typing.specs.Program.{Program}
use Rattle.wf_history.specs.declared.event.CallId.{CallId}
use Rattle.wf_order.specs.Verdict.{HasMoreFront}
use Rattle.wf_parts.specs.Numbering.{AreNumbered, whole_events}
use Rattle.wf_parts.specs.Parts.{AreValues, Events, IsPart, IsShort}

-- how calls lead from state to state
module _ {State : Type 0} (Effect : ObjectCall → State → State → Reply → Type 0) (opening : State) (events : Events) (by : ℕ) where
  -- the part of the first value whose part has no legal order ceases at this call to have one
  pub record PartCeases (id : CallId) (value : Scalar) : Type 0 where
    pub values : List Scalar
    pub are : AreValues by events values
    pub place : ℕ
    pub here : slice_get values place ≡ Some value
    pub earlier : (k : ℕ) (v : Scalar) → k < place → slice_get values k ≡ Some v → (order : List CallId) × HasPartOrder Effect opening events by v order
    pub part : Events
    pub is_part : IsPart events by value part
    pub ceases : CeasesAt Effect opening part id

-- More configurations than so many are reached in some beginning of the part of a value, where processes and calls go by small numbers.
pub record HasManyParts (Effect : ObjectCall → Activation → Activation → Reply → Type 0) (opening : Activation) (events : Events) (by most : ℕ) : Type 0 where
  pub value : Scalar
  pub part : Events
  pub is_part : IsPart events by value part
  pub names : List ℕ
  pub rows : List (List ℕ)
  pub numbered : Events
  pub same : named_all names (whole_events rows numbered) ≡ part
  pub apart : AreApart names
  pub rows_apart : AreNumbered rows numbered
  pub processes : ℕ
  pub more : HasMoreFront Effect opening numbered processes most

module _ {State : Type 0} (Begins : Program → Option Activation → State → Type 0) (Traps : Program → Option Activation → ℕ → Type 0) (Ends : Program → (budget : ℕ) → ObjectCall → State → State → Reply → Type 0) where
  module _ (program : Program) (text : List ℕ) where
    -- the text is a history of the program's object, of which this is the first call that has no such argument
    pub record HasShort (by : ℕ) (id : CallId) : Type 0 where
      pub start : HasBeginning Begins program text
      pub short : IsShort by start.tells.events id

    -- the text is a history of the program's object, one of whose parts ceases at this call to have a legal order
    pub record HasNoPartOrder (asked : Option ℕ) (by : ℕ) (id : CallId) (value : Scalar) : Type 0 where
      pub start : HasBeginning Begins program text
      pub ceases : PartCeases (Ends program (budget_of asked start.tells.budget)) start.opening start.tells.events by id value

    -- one of its parts has more configurations than so many, where variables go by their positions
    pub record HasTooManyParts (asked : Option ℕ) (by most : ℕ) : Type 0 where
      pub start : HasBeginning BeginsPlaced program text
      pub many : HasManyParts (CallEnds program (budget_of asked start.tells.budget)) start.opening start.tells.events by most

    -- what each fault says of the text, as a history of the program's object
    abbrev pub HasPartsFault : (asked : Option ℕ) (by most : ℕ) → PartsFault → Type 0
    HasPartsFault asked by most (Faults.Text e) = ⊥
    HasPartsFault asked by most (Faults.Form line) = IsHistoryFault program text (Reading.Form line)
    HasPartsFault asked by most (Faults.Open (Open.Trap trap)) = HasOpenTrap Begins Traps Ends program text trap
    HasPartsFault asked by most (Faults.Open Open.NoMemory) = ⊥
    HasPartsFault asked by most (Faults.Short id) = HasShort by id
    HasPartsFault asked by most (Faults.Illegal id value) = HasNoPartOrder asked by id value
    HasPartsFault asked by most Faults.TooMany = HasTooManyParts asked by most
    HasPartsFault asked by most Faults.NoMemory = Unit {0}

module _ (module_text history_text : List ℕ) (asked : Option ℕ) (by most : ℕ) where
  -- one text is a module, and the other one has this fault as a history of its object, by what the module's body and its calls mean
  pub record IsFaultOfParts (fault : PartsFault) : Type 0 where
    pub program : Program
    pub is_module : IsModule module_text program
    pub fails : HasPartsFault BeginsNamed TrapsNamed CallMeans program history_text asked by most fault

  -- what each fault says of both texts
  abbrev pub IsPartsFault : PartsFault → Type 0
  IsPartsFault (Faults.Text e) = IsTextFault module_text e
  IsPartsFault (Faults.Form line) = IsFaultOfParts (Faults.Form line)
  IsPartsFault (Faults.Open e) = IsFaultOfParts (Faults.Open e)
  IsPartsFault (Faults.Short id) = IsFaultOfParts (Faults.Short id)
  IsPartsFault (Faults.Illegal id value) = IsFaultOfParts (Faults.Illegal id value)
  IsPartsFault Faults.TooMany = IsFaultOfParts Faults.TooMany
  IsPartsFault Faults.NoMemory = Unit {0}

-- want of memory is told in one place

abbrev pub of_text : TextFault → PartsFault
of_text Text.NoMemory = Faults.NoMemory
of_text e = Faults.Text e

abbrev pub of_reading : RecordFault → PartsFault
of_reading (Reading.Form line) = Faults.Form line
of_reading Reading.NoMemory = Faults.NoMemory

abbrev pub of_open : OpenFault → PartsFault
of_open Open.NoMemory = Faults.NoMemory
of_open e = Faults.Open e

-- a fault with a number, so no want of memory
abbrev pub IsNumbered : PartsFault → Type 0
IsNumbered (Faults.Text e) = IsNumberedText e
IsNumbered (Faults.Form line) = Unit {0}
IsNumbered (Faults.Open e) = e ≢ Open.NoMemory
IsNumbered (Faults.Short id) = Unit {0}
IsNumbered (Faults.Illegal id value) = Unit {0}
IsNumbered Faults.TooMany = Unit {0}
IsNumbered Faults.NoMemory = ⊥

-- want of memory is told by its own variant alone
abbrev pub TellsMemoryApart : PartsFault → Type 0
TellsMemoryApart fault = (fault ≡ Faults.NoMemory) ⊎ IsNumbered fault

-- nothing is said of legal orders
abbrev pub IsUndecided : PartsFault → Type 0
IsUndecided fault = (fault ≡ Faults.TooMany) ⊎ (fault ≡ Faults.NoMemory)

-- what is said of a module's text over the scanner's bound
abbrev pub too_long : PartsFault
too_long = Faults.Text (Text.Scan Scan.TooLong)
