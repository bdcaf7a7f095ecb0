-- The line that tells each fault of a record from whose values an object is to begin.
use Rattle.std.specs.Prelude.{codes}
use Rattle.ob_text_values_reading.specs.declared.value_reading.ValuesFault.{ValuesFault}
use Rattle.ob_text_values_reading.specs.declared.value_reading.ValuesFault.TheVariants as Values
use Rattle.ob_fault_lines.specs.ModuleFaultLines.{Text, no_memory_line}
use Rattle.ob_fault_lines.specs.ScriptFaultLines.{at_line}

abbrev pub values_fault_line : ValuesFault → Text
values_fault_line (Values.Form line) = at_line (codes "F1") line
values_fault_line Values.NoMemory = no_memory_line
