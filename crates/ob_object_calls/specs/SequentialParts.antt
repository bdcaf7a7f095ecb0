-- How the faults of the parts of a sequential run are told: want of memory in one place.
use Rattle.ob_object_compile.specs.declared.compiling.CompileFault.{CompileFault}
use Rattle.ob_object_compile.specs.declared.compiling.CompileFault.TheVariants as Compile
use Rattle.ob_object_calls.specs.declared.sequential.SeqTextFault.{SeqTextFault}
use Rattle.ob_object_calls.specs.declared.sequential.SeqTextFault.TheVariants as Faults
use Rattle.ob_text_scripts.specs.declared.script.ScriptFault.{ScriptFault}
use Rattle.ob_text_scripts.specs.declared.script.ScriptFault.TheVariants as Script

abbrev pub of_compile : CompileFault → SeqTextFault
of_compile Compile.NoMemory = Faults.NoMemory
of_compile e = Faults.Compile e

abbrev pub of_script : ScriptFault → SeqTextFault
of_script Script.NoMemory = Faults.NoMemory
of_script e = Faults.Script e
