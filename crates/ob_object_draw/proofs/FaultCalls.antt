-- What faults say of both texts.
use Rattle.std.proofs.Common.{ℕ, List, Option, length}
use Rattle.ob_object_draw.specs.RecordPictures.{IsDrawRecordFault, moments_of, of_picture, of_record}
use Rattle.ob_picture_chart.specs.Charts.{begun}
use Rattle.ob_picture_chart.specs.Faults.{IsRangeFault}
use Rattle.ob_picture_chart.specs.declared.charts.CallRange.{CallRange}
use Rattle.ob_picture_chart.specs.declared.fault.PictureFault.{PictureFault}
use Rattle.ob_picture_chart.specs.declared.fault.PictureFault.TheVariants as Pictures
use Rattle.ob_text_reading.specs.RecordLines.{IsRecord, IsRecordFault, Told}
use Rattle.ob_text_reading.specs.declared.record_reading.RecordFault.{RecordFault}
use Rattle.ob_text_reading.specs.declared.record_reading.RecordFault.TheVariants as Record
use Rattle.ob_typing.specs.ModuleText.{IsModule}
use Rattle.ob_typing.specs.Program.{Program}

module _ (module_text record_text : List ℕ) (calls : Option CallRange) (program : Program) (is_module : IsModule module_text program) where
  pub record_fault : (e : RecordFault) → IsRecordFault program record_text e → IsDrawRecordFault module_text record_text calls (of_record e)
  record_fault (Record.Form line) h = record { program = program; is_module = is_module; fails = h }
  record_fault Record.NoMemory h = tt

  pub range_fault : (tells : Told) → IsRecord program record_text tells → (e : PictureFault) → IsRangeFault (length (begun (moments_of tells))) calls e →
      IsDrawRecordFault module_text record_text calls (of_picture e)
  range_fault tells is_record (Pictures.NoCalls all) h = record { program = program; tells = tells; read = record { is_module = is_module; is_record = is_record }; fails = h }
  range_fault tells is_record (Pictures.TooMany number) h = record { program = program; tells = tells; read = record { is_module = is_module; is_record = is_record }; fails = h }
  range_fault tells is_record Pictures.NoMemory h = tt
