-- The line that tells why no legal order of a history is printed.
use Rattle.std.specs.Prelude.{codes}
use Rattle.ob_object_search.specs.declared.searching.SearchFault.{SearchFault}
use Rattle.ob_object_search.specs.declared.searching.SearchFault.TheVariants as Faults
use Rattle.ob_fault_lines.specs.ModuleFaultLines.{Text, no_memory_line, open_line, text_line}
use Rattle.ob_fault_lines.specs.ScriptFaultLines.{at_line}
use Rattle.ob_fault_lines.specs.VerifyFaultLines.{of_call}

abbrev pub search_fault_line : SearchFault → Text
search_fault_line (Faults.Text e) = text_line e
search_fault_line (Faults.Form line) = at_line (codes "F1") line
search_fault_line (Faults.Open e) = open_line e
search_fault_line (Faults.Illegal id) = of_call (codes "X1") id
search_fault_line Faults.TooMany = codes "X2"
search_fault_line Faults.NoMemory = no_memory_line
