use Rattle.std.proofs.lemmas.Result.{IfOk-weaker}
use Rattle.ob_checked.specs.CheckedModule.{program_in}
use Rattle.ob_object_run.specs.declared.order_checker.OrderFault.TheVariants as Order
use Rattle.ob_object_calls.proofs.RepliesCrossing.{no_fault_of_text, overtaken_named}
use Rattle.ob_object_calls.proofs.call_outcome_text.call_overtaken.Goals as goal
use Rattle.ob_object_calls.specs.declared.verifying.VerifyFault.TheVariants as Faults

pub returns-in-Ok : goal.returns-in-Ok
returns-in-Ok c =
    IfOk-weaker c.overtaken_in_record.result _ _
    (λ other h. overtaken_named c.args.object.now c.args.text.now (program_in c.in-Ok.checked) c.in-Ok.ensures.program c.in-Ok.ensures.alone c.args.id other h)
    c.overtaken_in_record.ensures

pub returns-in_ok-not_for_memory-in-Err : goal.returns-in_ok-not_for_memory-in-Err
returns-in_ok-not_for_memory-in-Err c =
    no_fault_of_text c.args.object.now c.args.text.now c.in-Err.fault (Faults.Order (Order.TooEarly c.args.id)) c.in-Err.ensures.none c.in-Err.ensures.memory c.in_ok-not_for_memory-in-Err.ensures
