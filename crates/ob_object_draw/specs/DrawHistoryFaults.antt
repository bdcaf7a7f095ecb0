-- Why there is no picture of a history, from the bytes of a module and of the history.
use Rattle.std.specs.Prelude.{◌≢◌, ℕ, List, Option}
use Rattle.ob_check.specs.declared.module_text.TextFault.{TextFault}
use Rattle.ob_code_correct.specs.Named.{CallMeans}
use Rattle.ob_interface.specs.Call.{ObjectCall, Reply}
use Rattle.ob_object_search.specs.SearchFaults as Searches
use Rattle.ob_object_search.specs.SearchFaults.{HasSearchFault, IsSearchFault, IsUndecided, of_text}
use Rattle.ob_object_search.specs.declared.searching.SearchFault.TheVariants as Search
use Rattle.ob_object_draw.specs.HistoryPictures.{HasRangeFault}
use Rattle.ob_object_draw.specs.Parts.{IsNoX1}
use Rattle.ob_object_draw.specs.declared.picture_faults.DrawHistoryFault.{DrawHistoryFault}
use Rattle.ob_object_draw.specs.declared.picture_faults.DrawHistoryFault.TheVariants as Faults
use Rattle.ob_object_search.specs.RecordingFaults.{HasManyProcesses, IsManyProcesses}
use Rattle.ob_object_calls.specs.Beginnings.{BeginsNamed}
use Rattle.ob_meaning.specs.ByPositionStore.{Activation}
use Rattle.ob_picture_chart.specs.declared.charts.CallRange.{CallRange}
use Rattle.ob_picture_chart.specs.declared.fault.PictureFault.{PictureFault}
use Rattle.ob_picture_chart.specs.declared.fault.PictureFault.TheVariants as Pictures
use Rattle.ob_typing.specs.ModuleText.{IsModule}
use Rattle.ob_typing.specs.Program.{Program}

-- what each fault says of the text, as a history of the program's object
abbrev pub HasDrawFault : {State : Type 0} → (Program → Option Activation → State → Type 0) → (Program → Option Activation → ℕ → Type 0) →
    (Program → (budget : ℕ) → ObjectCall → State → State → Reply → Type 0) → Program → (text : List ℕ) → (asked : Option ℕ) → (most : ℕ) → Option CallRange → DrawHistoryFault → Type 0
HasDrawFault {State} Begins Traps Ends program text asked most calls (Faults.Search e) = HasSearchFault Begins Traps Ends program text asked most e × IsNoX1 e
HasDrawFault Begins Traps Ends program text asked most calls Faults.Processes = HasManyProcesses Begins program text
HasDrawFault Begins Traps Ends program text asked most calls (Faults.Calls e) = HasRangeFault Begins Ends program text asked calls e

module _ (module_text history_text : List ℕ) (asked : Option ℕ) where
  -- one text is a module, and what is shown of the other one, a history of its object, has this fault of its range
  pub record IsRangeFaultOf (calls : Option CallRange) (fault : PictureFault) : Type 0 where
    pub program : Program
    pub is_module : IsModule module_text program
    pub has_fault : HasRangeFault BeginsNamed CallMeans program history_text asked calls fault

  -- what each fault says of both texts
  abbrev pub IsDrawHistoryFault : (most : ℕ) → Option CallRange → DrawHistoryFault → Type 0
  IsDrawHistoryFault most calls (Faults.Search e) = IsSearchFault module_text history_text asked most e × IsNoX1 e
  IsDrawHistoryFault most calls Faults.Processes = IsManyProcesses module_text history_text
  IsDrawHistoryFault most calls (Faults.Calls e) = IsRangeFaultOf calls e

-- with such a fault there is no picture: it has a number, and is not X2
abbrev pub RulesOut : DrawHistoryFault → Type 0
RulesOut (Faults.Search e) = ¬ IsUndecided e
RulesOut Faults.Processes = Unit {0}
RulesOut (Faults.Calls e) = e ≢ Pictures.NoMemory

-- want of memory is told by its own variant alone
abbrev pub TellsMemoryApart : DrawHistoryFault → Type 0
TellsMemoryApart (Faults.Search e) = Searches.TellsMemoryApart e
TellsMemoryApart Faults.Processes = Unit {0}
TellsMemoryApart (Faults.Calls e) = e ≢ Pictures.NoMemory

-- want of memory is told in one place

abbrev pub of_module : TextFault → DrawHistoryFault
of_module e = Faults.Search (of_text e)

abbrev pub no_memory : DrawHistoryFault
no_memory = Faults.Search Search.NoMemory

abbrev pub of_picture : PictureFault → DrawHistoryFault
of_picture Pictures.NoMemory = no_memory
of_picture e = Faults.Calls e

-- what is said of a module's text over the scanner's bound
abbrev pub too_long : DrawHistoryFault
too_long = Faults.Search Searches.too_long
