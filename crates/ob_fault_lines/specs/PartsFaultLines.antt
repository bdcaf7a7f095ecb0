-- The line that tells why no legal orders of the parts of a history are printed.
use Rattle.std.specs.Prelude.{◌++◌, codes}
use Rattle.ob_fault_lines.specs.ModuleFaultLines.{Text, no_memory_line, open_line, text_line}
use Rattle.ob_fault_lines.specs.ScriptFaultLines.{at_line}
use Rattle.ob_fault_lines.specs.VerifyFaultLines.{of_call}
use Rattle.ob_interface.specs.declared.scalar.Scalar.{Scalar}
use Rattle.ob_object_search.specs.declared.fault.PartsFault.{PartsFault}
use Rattle.ob_object_search.specs.declared.fault.PartsFault.TheVariants as Parts
use Rattle.ob_text_words.specs.ScalarTexts.{scalar_text}
use Rattle.wf_history.specs.declared.event.CallId.{CallId}

-- of a call of the part that has this value
abbrev pub of_part : CallId → Scalar → Text
of_part id value = of_call (codes "X1") id ++ codes " by " ++ scalar_text value

abbrev pub parts_fault_line : PartsFault → Text
parts_fault_line (Parts.Text e) = text_line e
parts_fault_line (Parts.Form line) = at_line (codes "F1") line
parts_fault_line (Parts.Open e) = open_line e
parts_fault_line (Parts.Short id) = of_call (codes "X4") id
parts_fault_line (Parts.Illegal id value) = of_part id value
parts_fault_line Parts.TooMany = codes "X2"
parts_fault_line Parts.NoMemory = no_memory_line
