use Rattle.std.proofs.Common.{option_map}
use Rattle.std.proofs.lemmas.Result.{IfOk-weaker}
use Rattle.ob_checked.specs.CheckedModule.{program_in}
use Rattle.ob_object_run.specs.declared.order_checker.OrderFault.TheVariants as Order
use Rattle.ob_object_calls.proofs.RepliesCrossing.{found_here, no_fault_of_record, none_of_beginning}
use Rattle.ob_object_calls.proofs.call_outcome_text.call_in_record.Goals as goal
use Rattle.ob_object_calls.specs.View.{made_of}
use Rattle.ob_object_calls.specs.Beginnings.{IsBeginningFault}
use Rattle.ob_text_reading.specs.RecordContents.{carried_of}

pub returns-in-Err-Form : goal.returns-in-Err-Form
returns-in-Err-Form c = no_fault_of_record (program_in c.args.checked.now) c.args.text.now _ (Order.OtherReply c.args.id) (rw c.in-Err-Form.field-0-is at c.in-Err-Form.ensures.fault)

pub returns-in-Err-Trap : goal.returns-in-Err-Trap
returns-in-Err-Trap c =
    let fault : IsBeginningFault (program_in c.args.checked.now) (carried_of c.in-Ok.read.carried) c.in-Err-Trap.field-0 = c.in-Err-Trap.ensures.fault in
    none_of_beginning (program_in c.args.checked.now) c.args.text.now c.args.id _ c.in-Ok.ensures.record c.in-Ok.ensures.alone _ (rw c.in-Err-Trap.field-0-is at fault)

pub returns : goal.returns
returns c =
    IfOk-weaker c.made_call.result _ _
    (λ made h. found_here (program_in c.args.checked.now) c.args.text.now c.args.id _ c.in-Ok.ensures.record c.in-Ok.ensures.alone _ c.in-Ok-beginning.ensures.state (option_map made_of made) h)
    (rw c.deref.ensures.value at c.made_call.ensures)
