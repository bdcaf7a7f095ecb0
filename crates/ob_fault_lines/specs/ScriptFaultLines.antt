-- The line that tells each fault of a script.
use Rattle.std.specs.Prelude.{ℕ, ◌++◌, codes, decimal}
use Rattle.ob_text_scripts.specs.declared.script.ScriptFault.{ScriptFault}
use Rattle.ob_text_scripts.specs.declared.script.ScriptFault.TheVariants as Script
use Rattle.ob_fault_lines.specs.ModuleFaultLines.{Text, no_memory_line}

-- at a line of the script
abbrev pub at_line : Text → ℕ → Text
at_line fault line = fault ++ codes " line " ++ decimal line

abbrev pub script_line : ScriptFault → Text
script_line (Script.Form line) = at_line (codes "L1") line
script_line (Script.Procedure line) = at_line (codes "L2") line
script_line (Script.Arguments line) = at_line (codes "L3") line
script_line (Script.Process line) = at_line (codes "L4") line
script_line Script.NoMemory = no_memory_line
