-- What is drawn of a record, from the bytes of a module and of the record, and why there is no picture.
use Rattle.std.specs.Prelude.{◌≡◌, ◌≢◌, ℕ, List, Option, length, option_map}
use Rattle.ob_check.specs.CheckedText.{IsTextFault, TellsTextMemoryApart}
use Rattle.ob_check.specs.declared.module_text.TextFault.{TextFault}
use Rattle.ob_check.specs.declared.module_text.TextFault.TheVariants as Text
use Rattle.ob_checked.specs.Exports.{signatures}
use Rattle.ob_interface.specs.Export.{Signature}
use Rattle.ob_mean.specs.declared.openings.OpenFault.TheVariants as Open
use Rattle.ob_object_draw.specs.Marks.{IsCallMarked}
use Rattle.ob_object_draw.specs.declared.record_pictures.DrawRecordFault.{DrawRecordFault}
use Rattle.ob_object_draw.specs.declared.record_pictures.DrawRecordFault.TheVariants as Faults
use Rattle.ob_object_calls.specs.VerifyFaults.{IsVerifyFault}
use Rattle.ob_object_calls.specs.declared.verifying.VerifyFault.TheVariants as Verify
use Rattle.ob_picture.specs.Shapes.{picture_text}
use Rattle.ob_picture_chart.specs.Charts.{Mark, begun, chart_of, marked, range_of}
use Rattle.ob_picture_chart.specs.Faults.{IsRangeFault, MayBeShown}
use Rattle.ob_picture_chart.specs.Moments.{Moment, placed_from}
use Rattle.ob_picture_chart.specs.declared.charts.CallRange.{CallRange}
use Rattle.ob_picture_chart.specs.declared.fault.PictureFault.{PictureFault}
use Rattle.ob_picture_chart.specs.declared.fault.PictureFault.TheVariants as Pictures
use Rattle.ob_text_reading.specs.RecordLines.{IsRecord, IsRecordFault, Told}
use Rattle.ob_text_reading.specs.declared.record_reading.RecordFault.{RecordFault}
use Rattle.ob_text_reading.specs.declared.record_reading.RecordFault.TheVariants as Record
use Rattle.ob_typing.specs.ModuleText.{IsModule}
use Rattle.ob_typing.specs.Program.{Program}

-- the moments that a record tells: its Begin and End events, and between them when calls take effect by its order
abbrev pub moments_of : Told → List Moment
moments_of t = placed_from t.order 0 t.events

-- one text is a module, and the other one a record of its object that tells this
pub record IsRead (module_text record_text : List ℕ) (program : Program) (tells : Told) : Type 0 where
  pub is_module : IsModule module_text program
  pub is_record : IsRecord program record_text tells

-- the bytes are the picture of the calls of a range of what a record tells, with this mark: there are such calls, no more than a picture
-- has
pub record IsDrawn (names : List Signature) (tells : Told) (mark : Option Mark) (calls : Option CallRange) (output : List ℕ) : Type 0 where
  pub within : MayBeShown (length (begun (moments_of tells))) calls
  pub printed :
      output ≡ picture_text names (marked mark (chart_of tells.processes (moments_of tells) tells.order (range_of (length (begun (moments_of tells))) calls)))

-- the bytes are such a picture of a record, in which the call is marked of which its order's fault is, or none where the order is legal
pub record IsRecordPicture (module_text record_text : List ℕ) (calls : Option CallRange) (output : List ℕ) : Type 0 where
  pub program : Program
  pub tells : Told
  pub read : IsRead module_text record_text program tells
  pub mark : Option Mark
  pub marks : IsCallMarked module_text record_text (option_map (λ m. m.id) mark)
  pub drawn : IsDrawn (signatures program) tells mark calls output

-- the texts have no picture of the calls of a range
abbrev pub HasNoPicture : (module_text record_text : List ℕ) → Option CallRange → Type 0
HasNoPicture module_text record_text calls = (output : List ℕ) → IsRecordPicture module_text record_text calls output → ⊥

-- one text is a module, and the other one has this fault as a record of its object
pub record IsFormFault (module_text record_text : List ℕ) (line : ℕ) : Type 0 where
  pub program : Program
  pub is_module : IsModule module_text program
  pub fails : IsRecordFault program record_text (Record.Form line)

-- the record is read, and the range has this fault
pub record IsRangeFaultOf (module_text record_text : List ℕ) (calls : Option CallRange) (fault : PictureFault) : Type 0 where
  pub program : Program
  pub tells : Told
  pub read : IsRead module_text record_text program tells
  pub fails : IsRangeFault (length (begun (moments_of tells))) calls fault

-- what each fault says
abbrev pub IsDrawRecordFault : (module_text record_text : List ℕ) → Option CallRange → DrawRecordFault → Type 0
IsDrawRecordFault module_text record_text calls (Faults.Text e) = IsTextFault module_text e
IsDrawRecordFault module_text record_text calls (Faults.Form line) = IsFormFault module_text record_text line
IsDrawRecordFault module_text record_text calls (Faults.Open e) = IsVerifyFault module_text record_text (Verify.Open e)
IsDrawRecordFault module_text record_text calls (Faults.Calls e) = IsRangeFaultOf module_text record_text calls e
IsDrawRecordFault module_text record_text calls Faults.NoMemory = Unit {0}

-- want of memory is told in one place

abbrev pub of_text : TextFault → DrawRecordFault
of_text Text.NoMemory = Faults.NoMemory
of_text e = Faults.Text e

abbrev pub of_record : RecordFault → DrawRecordFault
of_record (Record.Form line) = Faults.Form line
of_record Record.NoMemory = Faults.NoMemory

abbrev pub of_picture : PictureFault → DrawRecordFault
of_picture Pictures.NoMemory = Faults.NoMemory
of_picture e = Faults.Calls e

-- want of memory is told by its own variant alone
abbrev pub TellsMemoryApart : DrawRecordFault → Type 0
TellsMemoryApart (Faults.Text e) = TellsTextMemoryApart e × (e ≢ Text.NoMemory)
TellsMemoryApart (Faults.Form line) = Unit {0}
TellsMemoryApart (Faults.Open e) = e ≢ Open.NoMemory
TellsMemoryApart (Faults.Calls e) = e ≢ Pictures.NoMemory
TellsMemoryApart Faults.NoMemory = Unit {0}

-- a fault with a number, so no want of memory
abbrev pub IsNumbered : DrawRecordFault → Type 0
IsNumbered fault = (fault ≢ Faults.NoMemory) × TellsMemoryApart fault

-- what is said with a fault, whatever calls are to be drawn
pub record IsRefusal (module_text record_text : List ℕ) (fault : DrawRecordFault) : Type 0 where
  pub says : (calls : Option CallRange) → IsDrawRecordFault module_text record_text calls fault
  pub none : IsNumbered fault → (calls : Option CallRange) → HasNoPicture module_text record_text calls
  pub memory : TellsMemoryApart fault
