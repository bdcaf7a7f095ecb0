-- What is remembered was made.
use Rattle.wf_order.specs.MadeCalls.{AreMade}
use Rattle.wf_order.proofs.behind.is_behind_any.Given as goal

abbrev pub invariant-loop : goal.invariant-loop
invariant-loop g l = AreMade g.O.Object.meaning g.O.Object.words_of (g.O.Object.effect l.task.object.now) l.calls
