-- The line that tells each fault of calls made one after the other.
use Rattle.ob_object_compile.specs.Asked.{Beginning}
use Rattle.ob_object_calls.specs.declared.sequential.SeqTextFault.{SeqTextFault}
use Rattle.ob_object_calls.specs.declared.sequential.SeqTextFault.TheVariants as Runs
use Rattle.ob_fault_lines.specs.CompileFaultLines.{compile_line}
use Rattle.ob_fault_lines.specs.ModuleFaultLines.{Text, no_memory_line}
use Rattle.ob_fault_lines.specs.ScriptFaultLines.{script_line}

abbrev pub seq_fault_line : Beginning → SeqTextFault → Text
seq_fault_line beginning (Runs.Compile e) = compile_line beginning e
seq_fault_line beginning (Runs.Script e) = script_line e
seq_fault_line beginning Runs.NoMemory = no_memory_line
