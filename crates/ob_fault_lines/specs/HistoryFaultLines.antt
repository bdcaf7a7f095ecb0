-- The line that tells why no picture of a history is printed.
use Rattle.std.specs.Prelude.{codes}
use Rattle.ob_fault_lines.specs.DrawFaultLines.{picture_line}
use Rattle.ob_fault_lines.specs.ModuleFaultLines.{Text}
use Rattle.ob_fault_lines.specs.SearchFaultLines.{search_fault_line}
use Rattle.ob_object_draw.specs.declared.picture_faults.DrawHistoryFault.{DrawHistoryFault}
use Rattle.ob_object_draw.specs.declared.picture_faults.DrawHistoryFault.TheVariants as Drawings

abbrev pub draw_history_fault_line : DrawHistoryFault → Text
draw_history_fault_line (Drawings.Search e) = search_fault_line e
draw_history_fault_line Drawings.Processes = codes "N1"
draw_history_fault_line (Drawings.Calls e) = picture_line e
