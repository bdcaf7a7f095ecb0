use Rattle.std.proofs.Common.{option_map}
use Rattle.std.proofs.lemmas.Result.{IfOk-weaker}
use Rattle.ob_checked.specs.CheckedModule.{program_in}
use Rattle.ob_object_run.specs.declared.order_checker.OrderFault.TheVariants as Order
use Rattle.ob_object_calls.proofs.RepliesCrossing.{found_named, no_fault_of_text}
use Rattle.ob_object_calls.proofs.call_outcome_text.call_made.Goals as goal
use Rattle.ob_object_calls.specs.View.{made_of}
use Rattle.ob_object_calls.specs.declared.verifying.VerifyFault.TheVariants as Faults

pub returns-in-Ok : goal.returns-in-Ok
returns-in-Ok c =
    IfOk-weaker c.call_in_record.result _ _
    (λ made h. found_named c.args.object.now c.args.text.now (program_in c.in-Ok.checked) c.in-Ok.ensures.program c.in-Ok.ensures.alone c.args.id (option_map made_of made) h)
    c.call_in_record.ensures

pub returns-in_ok-not_for_memory-in-Err : goal.returns-in_ok-not_for_memory-in-Err
returns-in_ok-not_for_memory-in-Err c =
    no_fault_of_text c.args.object.now c.args.text.now c.in-Err.fault (Faults.Order (Order.OtherReply c.args.id)) c.in-Err.ensures.none c.in-Err.ensures.memory c.in_ok-not_for_memory-in-Err.ensures
