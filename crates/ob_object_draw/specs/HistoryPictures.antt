-- What is drawn of a history, from the bytes of a module and of the history.
use Rattle.std.specs.Prelude.{◌≡◌, ℕ, List, Option, length, option_map, take}
use Rattle.ob_checked.specs.Exports.{signatures}
use Rattle.ob_code_correct.specs.Named.{CallMeans}
use Rattle.ob_interface.specs.Call.{ObjectCall, Reply}
use Rattle.ob_interface.specs.Export.{Signature}
use Rattle.ob_object_draw.specs.Parts.{ShowsPart}
use Rattle.ob_object_calls.specs.Beginnings.{BeginsNamed}
use Rattle.ob_meaning.specs.ByPositionStore.{Activation}
use Rattle.ob_picture.specs.Shapes.{picture_text}
use Rattle.ob_picture_chart.specs.Charts.{Mark, begun, chart_of_calls, marked}
use Rattle.ob_picture_chart.specs.Faults.{IsRangeFault, MayBeShown}
use Rattle.ob_picture_chart.specs.Moments.{placed_from}
use Rattle.ob_picture_chart.specs.declared.charts.CallRange.{CallRange}
use Rattle.ob_picture_chart.specs.declared.fault.PictureFault.{PictureFault}
use Rattle.ob_typing.specs.ModuleText.{IsModule}
use Rattle.ob_typing.specs.Program.{Program}
use Rattle.wf_lookup.specs.Beginnings.{process_count}
use Rattle.wf_history.specs.History.{Event}
use Rattle.wf_history.specs.declared.event.CallId.{CallId}

-- how many calls begin with these events
abbrev pub begun_with : List (Event ObjectCall Reply) → List CallId → ℕ
begun_with events order = length (begun (placed_from order 0 events))

-- The bytes are the picture of the calls of a range of these events of so many processes, which take effect as late as the order lets them,
-- with this mark: there are such calls, no more than a picture has.
pub record AreDrawn (names : List Signature) (processes : ℕ) (events : List (Event ObjectCall Reply)) (order : List CallId) (mark : Option Mark) (calls : Option CallRange) (output : List ℕ) : Type 0 where
  pub within : MayBeShown (begun_with events order) calls
  pub printed : output ≡ picture_text names (marked mark (chart_of_calls processes (placed_from order 0 events) order calls))

-- the same with some mark of this call, or with none
abbrev pub AreDrawnMarked : (names : List Signature) (processes : ℕ) (events : List (Event ObjectCall Reply)) (order : List CallId) → Option CallId → Option CallRange → (output : List ℕ) → Type 0
AreDrawnMarked names processes events order ceases calls output =
    (mark : Option Mark) × (option_map (λ m. m.id) mark ≡ ceases) × AreDrawn names processes events order mark calls output

-- with which state the calls of a history begin, and how calls with a budget lead from state to state
module _ {State : Type 0} (Begins : Program → Option Activation → State → Type 0) (Ends : Program → (budget : ℕ) → ObjectCall → State → State → Reply → Type 0) (program : Program) (text : List ℕ) (asked : Option ℕ) (calls : Option CallRange) where
  -- the bytes are the picture of the calls of a range of what is shown of the text, as a history of the program's object
  pub record HasPicture (output : List ℕ) : Type 0 where
    pub count : ℕ
    pub order : List CallId
    pub ceases : Option CallId
    pub part : ShowsPart Begins Ends program text asked count order ceases
    pub drawn : AreDrawnMarked (signatures program) (process_count part.start.tells.events) (take count part.start.tells.events) order ceases calls output

  -- what is shown has this fault of its range
  pub record HasRangeFault (fault : PictureFault) : Type 0 where
    pub count : ℕ
    pub order : List CallId
    pub ceases : Option CallId
    pub part : ShowsPart Begins Ends program text asked count order ceases
    pub fails : IsRangeFault (begun_with (take count part.start.tells.events) order) calls fault

module _ (module_text history_text : List ℕ) (asked : Option ℕ) (calls : Option CallRange) where
  -- one text is a module, and the bytes are such a picture of the other one, by what the module's body and its calls mean
  pub record IsHistoryPicture (output : List ℕ) : Type 0 where
    pub program : Program
    pub is_module : IsModule module_text program
    pub has_picture : HasPicture BeginsNamed CallMeans program history_text asked calls output

  -- the texts have no such picture
  abbrev pub HasNoPicture : Type 0
  HasNoPicture = (output : List ℕ) → ¬ IsHistoryPicture output
