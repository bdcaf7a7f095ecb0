-- With which fault bytes are refused: the fault has a number, so it is no want of memory; what it says of them is true; and they have nothing
-- of what is asked for, whatever else is wrong with them.
use Rattle.std.specs.Prelude.{◌≢◌, ℕ, List, Option}
use Rattle.ob_desk_serve.specs.PromisesOfServeTexts as Serves
use Rattle.ob_desk_serve.specs.PromisesOfServeTexts.{IsUngatedRefusal}
use Rattle.ob_desk_serve.specs.declared.serving_texts.ServeTextFault.{ServeTextFault}
use Rattle.ob_object_compile.specs.Asked.{Asked}
use Rattle.ob_object_compile.specs.Compilation.{IsAny}
use Rattle.ob_object_draw.specs.RecordPictures as RecordPictures
use Rattle.ob_object_draw.specs.RecordPictures.{HasNoPicture, IsDrawRecordFault}
use Rattle.ob_object_draw.specs.declared.record_pictures.DrawRecordFault.{DrawRecordFault}
use Rattle.ob_object_perform.specs.Performance as Performs
use Rattle.ob_object_perform.specs.Pictured.{IsDrawRefusal}
use Rattle.ob_object_perform.specs.Texts.{Texts}
use Rattle.ob_object_perform.specs.declared.drawing.DrawFault.{DrawFault}
use Rattle.ob_object_perform.specs.declared.drawing.DrawFault.TheVariants as Draws
use Rattle.ob_object_perform.specs.declared.performing.PerformFault.{PerformFault}
use Rattle.ob_picture_chart.specs.declared.charts.CallRange.{CallRange}
use Rattle.ob_picture_chart.specs.declared.fault.PictureFault.TheVariants as Pictures

-- the calls of a script on an object that is asked for, made by workers
abbrev pub RefusesWorkers : Asked → (script_bytes : List ℕ) → ServeTextFault → Type 0
RefusesWorkers a script_bytes e = IsUngatedRefusal a script_bytes e × Serves.IsNumbered e

-- a run over the module's tree
abbrev pub RefusesTreeRun : Texts → PerformFault → Type 0
RefusesTreeRun t e = Performs.IsRefusal IsAny t e × Performs.IsNumbered e

-- a fault of a picture with a number, so no want of memory
abbrev pub IsNumberedDraw : DrawFault → Type 0
IsNumberedDraw (Draws.Run e) = Performs.IsNumbered e
IsNumberedDraw (Draws.Calls e) = e ≢ Pictures.NoMemory

-- the picture of a run
abbrev pub RefusesPicture : Texts → Option CallRange → DrawFault → Type 0
RefusesPicture t calls e = IsDrawRefusal t calls e × IsNumberedDraw e

-- the picture of a record
pub record RefusesRecordPicture (module_bytes record_bytes : List ℕ) (calls : Option CallRange) (e : DrawRecordFault) : Type 0 where
  pub says : IsDrawRecordFault module_bytes record_bytes calls e
  pub none : HasNoPicture module_bytes record_bytes calls
  pub numbered : RecordPictures.IsNumbered e
