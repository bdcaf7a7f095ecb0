-- What is drawn of a run from texts, and why there is no picture.
use Rattle.std.specs.Prelude.{◌≡◌, ◌≢◌, ℕ, List, Option, length}
use Rattle.ob_object_compile.specs.Compilation.{IsShort}
use Rattle.ob_checked.specs.Exports.{signatures}
use Rattle.ob_object_perform.specs.Performance as Performance
use Rattle.ob_object_perform.specs.Performance.{AreMakersIn, HasNoRun, IsFaultOf, IsNumbered, IsPerformance}
use Rattle.ob_object_perform.specs.Texts.{Texts}
use Rattle.ob_object_perform.specs.declared.drawing.DrawFault.{DrawFault}
use Rattle.ob_object_perform.specs.declared.drawing.DrawFault.TheVariants as Faults
use Rattle.ob_object_perform.specs.declared.performing.PerformFault.TheVariants as Perform
use Rattle.ob_text_record.specs.Record.{Record}
use Rattle.ob_picture.specs.Shapes.{picture_text}
use Rattle.ob_picture_chart.specs.Charts.{begun, chart_of, range_of}
use Rattle.ob_picture_chart.specs.Faults.{IsRangeFault, MayBeShown}
use Rattle.ob_picture_chart.specs.Moments.{Moment, seen_from}
use Rattle.ob_picture_chart.specs.declared.charts.CallRange.{CallRange}
use Rattle.ob_picture_chart.specs.declared.fault.PictureFault.{PictureFault}
use Rattle.ob_picture_chart.specs.declared.fault.PictureFault.TheVariants as Pictures
use Rattle.ob_typing.specs.Program.{Program}

-- the record is that of a run from the texts, the program that of its object, and the makers are for each event the process whose step showed
-- it
pub record IsWithMakers (t : Texts) (program : Program) (r : Record) (makers : List ℕ) : Type 0 where
  pub performs : IsPerformance t r
  pub program_is : program ≡ performs.object.program
  pub made : AreMakersIn performs.object performs.calls r makers

-- the moments of a run
abbrev pub moments_of : Record → (makers : List ℕ) → List Moment
moments_of r makers = seen_from makers 0 r.history

-- a run from the texts, with its program and its makers
pub record Shown (t : Texts) : Type 0 where
  pub program : Program
  pub shown : Record
  pub makers : List ℕ
  pub is : IsWithMakers t program shown makers

-- the bytes are the picture of the calls of a range of a run from the texts: there are such calls, no more than a picture has
pub record IsPicturePrinted (t : Texts) (calls : Option CallRange) (output : List ℕ) : Type 0 where
  pub run : Shown t
  pub within : MayBeShown (length (begun (moments_of run.shown run.makers))) calls
  pub printed :
      let moments = moments_of run.shown run.makers in
      output ≡ picture_text (signatures run.program) (chart_of t.asked.processes moments run.shown.order (range_of (length (begun moments)) calls))

-- the texts have a run, and the range this fault
pub record IsPictureFault (t : Texts) (calls : Option CallRange) (fault : PictureFault) : Type 0 where
  pub run : Shown t
  pub fails : IsRangeFault (length (begun (moments_of run.shown run.makers))) calls fault

-- what each fault says
abbrev pub IsDrawFault : (t : Texts) → Option CallRange → DrawFault → Type 0
IsDrawFault t calls (Faults.Run e) = IsFaultOf IsShort t e
IsDrawFault t calls (Faults.Calls e) = IsPictureFault t calls e

-- want of memory is told in one place
abbrev pub of_picture : PictureFault → DrawFault
of_picture Pictures.NoMemory = Faults.Run Perform.NoMemory
of_picture e = Faults.Calls e

-- want of memory is told by its own variant alone
abbrev pub TellsMemoryApart : DrawFault → Type 0
TellsMemoryApart (Faults.Run e) = Performance.TellsMemoryApart e
TellsMemoryApart (Faults.Calls e) = e ≢ Pictures.NoMemory

-- with a fault of the run that has a number the texts have none
abbrev pub SaysNoRun : Texts → DrawFault → Type 0
SaysNoRun t (Faults.Run e) = IsNumbered e → HasNoRun IsShort t
SaysNoRun t (Faults.Calls e) = Unit {0}

-- what is said with a fault of a picture
pub record IsDrawRefusal (t : Texts) (calls : Option CallRange) (fault : DrawFault) : Type 0 where
  pub says : IsDrawFault t calls fault
  pub none : SaysNoRun t fault
  pub memory : TellsMemoryApart fault
