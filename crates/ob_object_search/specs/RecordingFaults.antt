-- Why there is no record of a history with a legal order.
use Rattle.std.specs.Prelude.{◌<◌, ℕ, List, Option}
use Rattle.ob_check.specs.declared.module_text.TextFault.{TextFault}
use Rattle.ob_interface.specs.Call.{ObjectCall, Reply}
use Rattle.ob_interface.specs.Processes.{most_processes}
use Rattle.ob_object_search.specs.Searched.{HasBeginning}
use Rattle.ob_object_search.specs.SearchFaults as Search
use Rattle.ob_object_search.specs.SearchFaults.{HasSearchFault, IsSearchFault, IsUndecided, of_text}
use Rattle.ob_object_search.specs.declared.searching.SearchFault.TheVariants as SearchFaults
use Rattle.wf_lookup.specs.Beginnings.{process_count}
use Rattle.ob_object_search.specs.declared.order_recording.RecordingFault.{RecordingFault}
use Rattle.ob_object_search.specs.declared.order_recording.RecordingFault.TheVariants as Faults
use Rattle.ob_object_calls.specs.Beginnings.{BeginsNamed}
use Rattle.ob_meaning.specs.ByPositionStore.{Activation}
use Rattle.ob_typing.specs.ModuleText.{IsModule}
use Rattle.ob_typing.specs.Program.{Program}

-- N1: the text is a history of the program's object, whose calls have a state to begin with, and a process of it is over 15
pub record HasManyProcesses {State : Type 0} (Begins : Program → Option Activation → State → Type 0) (program : Program) (text : List ℕ) : Type 0 where
  pub start : HasBeginning Begins program text
  pub many : most_processes < process_count start.tells.events

-- what each fault says of the text, as a history of the program's object
abbrev pub HasRecordingFault : {State : Type 0} → (Program → Option Activation → State → Type 0) → (Program → Option Activation → ℕ → Type 0) →
    (Program → (budget : ℕ) → ObjectCall → State → State → Reply → Type 0) → Program → (text : List ℕ) → (asked : Option ℕ) → (most : ℕ) → RecordingFault → Type 0
HasRecordingFault {State} Begins Traps Ends program text asked most (Faults.Search e) = HasSearchFault Begins Traps Ends program text asked most e
HasRecordingFault Begins Traps Ends program text asked most Faults.Processes = HasManyProcesses Begins program text

-- the same of both texts, by what the module's body and its calls mean
pub record IsManyProcesses (module_text history_text : List ℕ) : Type 0 where
  pub program : Program
  pub is_module : IsModule module_text program
  pub has_many : HasManyProcesses BeginsNamed program history_text

abbrev pub IsRecordingFault : (module_text history_text : List ℕ) → (asked : Option ℕ) → (most : ℕ) → RecordingFault → Type 0
IsRecordingFault module_text history_text asked most (Faults.Search e) = IsSearchFault module_text history_text asked most e
IsRecordingFault module_text history_text asked most Faults.Processes = IsManyProcesses module_text history_text

-- nothing is said of legal orders: too many configurations, too many processes, or want of memory
abbrev pub SaysNoOrder : RecordingFault → Type 0
SaysNoOrder (Faults.Search e) = IsUndecided e
SaysNoOrder Faults.Processes = Unit {0}

-- want of memory is told by its own variant alone
abbrev pub TellsMemoryApart : RecordingFault → Type 0
TellsMemoryApart (Faults.Search e) = Search.TellsMemoryApart e
TellsMemoryApart Faults.Processes = Unit {0}

-- no more configurations than were to be looked at, or another fault
abbrev pub too_many : RecordingFault
too_many = Faults.Search SearchFaults.TooMany

abbrev pub of_module : TextFault → RecordingFault
of_module e = Faults.Search (of_text e)

abbrev pub no_memory : RecordingFault
no_memory = Faults.Search SearchFaults.NoMemory

-- what is said of a module's text over the scanner's bound
abbrev pub too_long : RecordingFault
too_long = Faults.Search Search.too_long
