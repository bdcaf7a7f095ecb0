use Rattle.std.proofs.lemmas.Result.{IfOk-weaker}
use Rattle.ob_checked.specs.CheckedModule.{program_in}
use Rattle.ob_object_run.specs.declared.order_checker.OrderFault.TheVariants as Order
use Rattle.ob_object_calls.proofs.RepliesCrossing.{no_fault_of_record, overtaken_here}
use Rattle.ob_object_calls.proofs.call_outcome_text.overtaken_in_record.Goals as goal

pub returns-in-Ok : goal.returns-in-Ok
returns-in-Ok c =
    IfOk-weaker c.overtaken.result _ _
    (λ other h. overtaken_here (program_in c.args.checked.now) c.args.text.now c.args.id _ c.in-Ok.ensures.record c.in-Ok.ensures.alone other h)
    (rw c.deref.ensures.value at c.overtaken.ensures)

pub returns-in-Err-Form : goal.returns-in-Err-Form
returns-in-Err-Form c = no_fault_of_record (program_in c.args.checked.now) c.args.text.now _ (Order.TooEarly c.args.id) (rw c.in-Err-Form.field-0-is at c.in-Err-Form.ensures.fault)
