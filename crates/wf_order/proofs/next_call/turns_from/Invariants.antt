-- Of the processes so far.
use Rattle.wf_order.specs.Turns.{AreTurns}
use Rattle.wf_order.proofs.next_call.turns_from.Given as goal

abbrev pub invariant-loop-process : goal.invariant-loop-process
invariant-loop-process l = AreTurns l.rows l.counts l.process l.from l.limit l.turns.items
