-- What each fault says of the bytes of a module and of a history.
use Rattle.std.specs.Prelude.{◌≡◌, ◌≢◌, ◌⊎◌, ℕ, List, length, Option}
use Rattle.ob_check.specs.CheckedText.{IsNumberedText, IsTextFault}
use Rattle.ob_check.specs.declared.module_text.TextFault.{TextFault}
use Rattle.ob_check.specs.declared.module_text.TextFault.TheVariants as Text
use Rattle.ob_code_correct.specs.Named.{CallMeans}
use Rattle.ob_interface.specs.Call.{ObjectCall, Reply}
use Rattle.ob_mean.specs.declared.openings.OpenFault.{OpenFault}
use Rattle.ob_mean.specs.declared.openings.OpenFault.TheVariants as Open
use Rattle.ob_object_run.specs.LegalOrder.{CallEnds}
use Rattle.ob_object_search.specs.Searched.{HasBeginning, budget_of}
use Rattle.ob_object_search.specs.declared.searching.SearchFault.{SearchFault}
use Rattle.ob_object_search.specs.declared.searching.SearchFault.TheVariants as Faults
use Rattle.ob_object_calls.specs.Beginnings.{BeginsNamed, BeginsPlaced, TrapsNamed}
use Rattle.ob_meaning.specs.ByPositionStore.{Activation}
use Rattle.ob_scan.specs.declared.fault.ScanFault.TheVariants as Scan
use Rattle.ob_text_reading.specs.HistoryLines.{HistoryTold, IsHistoryFault, IsHistoryText}
use Rattle.ob_text_reading.specs.Names.{AreApart, AreBelow, named_all}
use Rattle.ob_text_reading.specs.declared.record_reading.RecordFault.{RecordFault}
use Rattle.ob_text_reading.specs.declared.record_reading.RecordFault.TheVariants as Reading
use Rattle.ob_typing.specs.ModuleText.{IsModule}
use Rattle.ob_typing.specs.Program.{Program}
use Rattle.wf_history.specs.declared.event.CallId.{CallId}
use Rattle.wf_history.specs.History.{Event}
use Rattle.wf_order.specs.Verdict.{HasLegal, HasMoreFront, IsLastLegal}

-- how calls lead from state to state
module _ {State : Type 0} (Effect : ObjectCall → State → State → Reply → Type 0) (opening : State) (events : List (Event ObjectCall Reply)) where
  -- the events before an end of the call have a legal order, and with that end they have none; so all the events have none
  pub record CeasesAt (id : CallId) : Type 0 where
    pub place : ℕ
    pub last : IsLastLegal Effect opening events place
    pub is : last.id ≡ id
    pub none : ¬ HasLegal Effect opening events

-- More configurations than so many are reached in some beginning of the events, where processes go by small numbers and these are the
-- names that they have here.
pub record HasMany (Effect : ObjectCall → Activation → Activation → Reply → Type 0) (opening : Activation) (events : List (Event ObjectCall Reply)) (most : ℕ) : Type 0 where
  pub names : List ℕ
  pub numbered : List (Event ObjectCall Reply)
  pub same : named_all names numbered ≡ events
  pub apart : AreApart names
  pub below : AreBelow (length names) numbered
  pub processes : ℕ
  pub more : HasMoreFront Effect opening numbered processes most

-- with which state the calls of a history begin, or with which trap they do not, by the values that were carried over, and how calls with
-- a budget lead from state to state
module _ {State : Type 0} (Begins : Program → Option Activation → State → Type 0) (Traps : Program → Option Activation → ℕ → Type 0) (Ends : Program → (budget : ℕ) → ObjectCall → State → State → Reply → Type 0) where
  module _ (program : Program) (text : List ℕ) where
    -- the text is a history of the program's object, whose body traps before its calls begin
    pub record HasOpenTrap (trap : ℕ) : Type 0 where
      pub tells : HistoryTold
      pub is_history : IsHistoryText program text tells
      pub traps : Traps program tells.carried trap

    -- the text is a history of the program's object, which ceases at this call to have a legal order
    pub record HasNoOrder (asked : Option ℕ) (id : CallId) : Type 0 where
      pub start : HasBeginning Begins program text
      pub ceases : CeasesAt (Ends program (budget_of asked start.tells.budget)) start.opening start.tells.events id

    -- it has more configurations than so many, where variables go by their positions
    pub record HasTooMany (asked : Option ℕ) (most : ℕ) : Type 0 where
      pub start : HasBeginning BeginsPlaced program text
      pub many : HasMany (CallEnds program (budget_of asked start.tells.budget)) start.opening start.tells.events most

    -- what each fault says of the text, as a history of the program's object
    abbrev pub HasSearchFault : (asked : Option ℕ) (most : ℕ) → SearchFault → Type 0
    HasSearchFault asked most (Faults.Text e) = ⊥
    HasSearchFault asked most (Faults.Form line) = IsHistoryFault program text (Reading.Form line)
    HasSearchFault asked most (Faults.Open (Open.Trap trap)) = HasOpenTrap trap
    HasSearchFault asked most (Faults.Open Open.NoMemory) = ⊥
    HasSearchFault asked most (Faults.Illegal id) = HasNoOrder asked id
    HasSearchFault asked most Faults.TooMany = HasTooMany asked most
    HasSearchFault asked most Faults.NoMemory = Unit {0}

module _ (module_text history_text : List ℕ) (asked : Option ℕ) (most : ℕ) where
  -- one text is a module, and the other one has this fault as a history of its object, by what the module's body and its calls mean
  pub record IsFaultOfHistory (fault : SearchFault) : Type 0 where
    pub program : Program
    pub is_module : IsModule module_text program
    pub fails : HasSearchFault BeginsNamed TrapsNamed CallMeans program history_text asked most fault

  -- what each fault says of both texts
  abbrev pub IsSearchFault : SearchFault → Type 0
  IsSearchFault (Faults.Text e) = IsTextFault module_text e
  IsSearchFault (Faults.Form line) = IsFaultOfHistory (Faults.Form line)
  IsSearchFault (Faults.Open e) = IsFaultOfHistory (Faults.Open e)
  IsSearchFault (Faults.Illegal id) = IsFaultOfHistory (Faults.Illegal id)
  IsSearchFault Faults.TooMany = IsFaultOfHistory Faults.TooMany
  IsSearchFault Faults.NoMemory = Unit {0}

-- want of memory is told in one place

abbrev pub of_text : TextFault → SearchFault
of_text Text.NoMemory = Faults.NoMemory
of_text e = Faults.Text e

abbrev pub of_reading : RecordFault → SearchFault
of_reading (Reading.Form line) = Faults.Form line
of_reading Reading.NoMemory = Faults.NoMemory

abbrev pub of_open : OpenFault → SearchFault
of_open Open.NoMemory = Faults.NoMemory
of_open e = Faults.Open e

-- a fault with a number, so no want of memory
abbrev pub IsNumbered : SearchFault → Type 0
IsNumbered (Faults.Text e) = IsNumberedText e
IsNumbered (Faults.Form line) = Unit {0}
IsNumbered (Faults.Open e) = e ≢ Open.NoMemory
IsNumbered (Faults.Illegal id) = Unit {0}
IsNumbered Faults.TooMany = Unit {0}
IsNumbered Faults.NoMemory = ⊥

-- want of memory is told by its own variant alone
abbrev pub TellsMemoryApart : SearchFault → Type 0
TellsMemoryApart fault = (fault ≡ Faults.NoMemory) ⊎ IsNumbered fault

-- nothing is said of legal orders
abbrev pub IsUndecided : SearchFault → Type 0
IsUndecided fault = (fault ≡ Faults.TooMany) ⊎ (fault ≡ Faults.NoMemory)

-- what is said of a module's text over the scanner's bound
abbrev pub too_long : SearchFault
too_long = Faults.Text (Text.Scan Scan.TooLong)
