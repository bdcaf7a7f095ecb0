use Rattle.wf_order.proofs.Limits.{IsLeastEnd}
use Rattle.wf_order.proofs.rows.limit_of.Given as goal

abbrev pub invariant-loop-process : goal.invariant-loop-process
invariant-loop-process l = IsLeastEnd l.rows l.counts l.process l.limit
