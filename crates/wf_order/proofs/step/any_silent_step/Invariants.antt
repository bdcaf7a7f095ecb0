-- What was made by the last call.
use Rattle.std.specs.Prelude.{IfSome}
use Rattle.wf_order.specs.Search.{IsMade}
use Rattle.wf_order.proofs.step.any_silent_step.Given as goal

abbrev pub invariant-loop : goal.invariant-loop
invariant-loop g l = IfSome l.made (IsMade g.O.Object.meaning (g.O.Object.effect l.task.object.now) (g.O.Object.meaning l.here.found.now.state))
