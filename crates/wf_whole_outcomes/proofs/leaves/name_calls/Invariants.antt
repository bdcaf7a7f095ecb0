-- The names so far, and those of the calls that are left.
use Rattle.std.proofs.Common.{◌≡◌, ◌++◌, drop, replicate}
use Rattle.wf_whole_outcomes.specs.Leaves.{named}
use Rattle.wf_whole_outcomes.proofs.leaves.name_calls.Given as goal

abbrev pub invariant-loop-process : goal.invariant-loop-process
invariant-loop-process l = named (replicate l.processes 0) l.way ≡ l.order.items ++ named l.counts.items (drop l.process-index l.way)
