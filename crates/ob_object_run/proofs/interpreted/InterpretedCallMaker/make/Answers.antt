use Rattle.std.proofs.Common.{◌∙◌, refl, sym, ap}
use Rattle.ob_interface.specs.View.{reply_of}
use Rattle.ob_mean.specs.View as Interpreter
use Rattle.ob_object_run.proofs.Interpreting.{interpreted_in_turn}
use Rattle.ob_object_run.proofs.interpreted.InterpretedCallMaker.make.Goals as goal
use Rattle.ob_store.specs.View.{state_of}
use Rattle.wf_history.specs.View.{seen_call}

pub returns : goal.returns
returns c =
    interpreted_in_turn c.args.self.now _ _ (Interpreter.call_of c.in_ok-asked.asked) (seen_call c.args.call) (state_of c.replace-before.result) _ (reply_of c.in_ok-object_reply.field-0)
    c.program.ensures.program c.in_ok-asked.ensures (ap state_of c.replace-before.ensures.value) c.in_ok-next.ensures refl refl refl c.in_ok-object_reply.ensures
