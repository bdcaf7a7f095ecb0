-- The line that tells each fault of a picture, of a run or of a record.
use Rattle.std.specs.Prelude.{ℕ, ◌++◌, codes, decimal}
use Rattle.ob_object_compile.specs.Asked.{Beginning}
use Rattle.ob_object_draw.specs.declared.record_pictures.DrawRecordFault.{DrawRecordFault}
use Rattle.ob_object_draw.specs.declared.record_pictures.DrawRecordFault.TheVariants as Records
use Rattle.ob_object_perform.specs.declared.drawing.DrawFault.{DrawFault}
use Rattle.ob_object_perform.specs.declared.drawing.DrawFault.TheVariants as Faults
use Rattle.ob_picture_chart.specs.declared.fault.PictureFault.{PictureFault}
use Rattle.ob_picture_chart.specs.declared.fault.PictureFault.TheVariants as Pictures
use Rattle.ob_fault_lines.specs.ModuleFaultLines.{Text, no_memory_line, open_line, text_line}
use Rattle.ob_fault_lines.specs.RunFaultLines.{run_fault_line}
use Rattle.ob_fault_lines.specs.ScriptFaultLines.{at_line}

-- I1 tells how many calls begin in the run, I2 how many a picture would show
abbrev pub picture_line : PictureFault → Text
picture_line (Pictures.NoCalls count) = codes "I1 of " ++ decimal count ++ codes " calls"
picture_line (Pictures.TooMany count) = codes "I2 " ++ decimal count ++ codes " calls"
picture_line Pictures.NoMemory = no_memory_line

abbrev pub draw_fault_line : Beginning → DrawFault → Text
draw_fault_line beginning (Faults.Run e) = run_fault_line beginning e
draw_fault_line beginning (Faults.Calls e) = picture_line e

abbrev pub draw_record_fault_line : DrawRecordFault → Text
draw_record_fault_line (Records.Text e) = text_line e
draw_record_fault_line (Records.Form line) = at_line (codes "F1") line
draw_record_fault_line (Records.Open e) = open_line e
draw_record_fault_line (Records.Calls e) = picture_line e
draw_record_fault_line Records.NoMemory = no_memory_line
