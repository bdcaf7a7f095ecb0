-- What `draw` answers to the bytes of a module and of a history.
use Rattle.std.specs.Prelude.{◌≢◌, ℕ, List, Option}
use Rattle.ob_answer_files.specs.Printed.{IsTextAnswer}
use Rattle.ob_answer_files.specs.declared.answered.Answer.{Answer}
use Rattle.ob_object_search.specs.SearchFaults as Searches
use Rattle.ob_object_draw.specs.DrawHistoryFaults.{IsDrawHistoryFault, RulesOut}
use Rattle.ob_object_draw.specs.HistoryPictures.{HasNoPicture, IsHistoryPicture}
use Rattle.ob_object_draw.specs.declared.picture_faults.DrawHistoryFault.{DrawHistoryFault}
use Rattle.ob_object_draw.specs.declared.picture_faults.DrawHistoryFault.TheVariants as Drawings
use Rattle.ob_fault_lines.specs.HistoryFaultLines.{draw_history_fault_line}
use Rattle.ob_picture_chart.specs.declared.charts.CallRange.{CallRange}
use Rattle.ob_picture_chart.specs.declared.fault.PictureFault.TheVariants as Pictures

-- a fault with a number, so no want of memory
abbrev pub IsNumberedDrawing : DrawHistoryFault → Type 0
IsNumberedDrawing (Drawings.Search e) = Searches.IsNumbered e
IsNumberedDrawing Drawings.Processes = Unit {0}
IsNumberedDrawing (Drawings.Calls e) = e ≢ Pictures.NoMemory

-- Of the bytes of a module and of a history, with a budget where one is given, by a look at so many configurations at most: why there is no
-- picture of these calls. With X2 there may be one that was not found.
pub record RefusesHistoryPicture (module_bytes history_bytes : List ℕ) (budget : Option ℕ) (most : ℕ) (calls : Option CallRange) (e : DrawHistoryFault) : Type 0 where
  pub says : IsDrawHistoryFault module_bytes history_bytes budget most calls e
  pub none : RulesOut e → HasNoPicture module_bytes history_bytes budget calls
  pub numbered : IsNumberedDrawing e

-- the picture of some calls of the history, or of all
abbrev pub IsHistoryPictureAnswer : Option CallRange → (module_bytes history_bytes : List ℕ) (budget : Option ℕ) (most : ℕ) → Answer → Type 0
IsHistoryPictureAnswer calls module_bytes history_bytes budget most =
    IsTextAnswer (IsHistoryPicture module_bytes history_bytes budget calls) (RefusesHistoryPicture module_bytes history_bytes budget most calls) draw_history_fault_line
