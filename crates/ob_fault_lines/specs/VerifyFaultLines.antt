-- The line that tells why a record isn't verified.
use Rattle.std.specs.Prelude.{◌++◌, codes}
use Rattle.ob_object_run.specs.declared.order_checker.OrderFault.{OrderFault}
use Rattle.ob_object_run.specs.declared.order_checker.OrderFault.TheVariants as Order
use Rattle.ob_object_calls.specs.declared.verifying.VerifyFault.{VerifyFault}
use Rattle.ob_object_calls.specs.declared.verifying.VerifyFault.TheVariants as Faults
use Rattle.ob_text_record.specs.RecordText.{id_text}
use Rattle.wf_history.specs.declared.event.CallId.{CallId}
use Rattle.ob_fault_lines.specs.ModuleFaultLines.{Text, no_memory_line, open_line, text_line}
use Rattle.ob_fault_lines.specs.ScriptFaultLines.{at_line}

-- of a call
abbrev pub of_call : Text → CallId → Text
of_call fault id = fault ++ codes " " ++ id_text id

abbrev pub order_line : OrderFault → Text
order_line (Order.Missing id) = of_call (codes "H1") id
order_line (Order.Unknown id) = of_call (codes "H2") id
order_line (Order.TooEarly id) = of_call (codes "H3") id
order_line (Order.OtherReply id) = of_call (codes "H4") id
order_line Order.NoMemory = no_memory_line

abbrev pub verify_fault_line : VerifyFault → Text
verify_fault_line (Faults.Text e) = text_line e
verify_fault_line (Faults.Form line) = at_line (codes "F1") line
verify_fault_line (Faults.Open e) = open_line e
verify_fault_line (Faults.Order e) = order_line e
verify_fault_line Faults.NoMemory = no_memory_line
