-- The line that tells why no record of a history with a legal order is printed.
use Rattle.std.specs.Prelude.{codes}
use Rattle.ob_fault_lines.specs.ModuleFaultLines.{Text}
use Rattle.ob_fault_lines.specs.SearchFaultLines.{search_fault_line}
use Rattle.ob_object_search.specs.declared.order_recording.RecordingFault.{RecordingFault}
use Rattle.ob_object_search.specs.declared.order_recording.RecordingFault.TheVariants as Recordings

abbrev pub recording_fault_line : RecordingFault → Text
recording_fault_line (Recordings.Search e) = search_fault_line e
recording_fault_line Recordings.Processes = codes "N1"
