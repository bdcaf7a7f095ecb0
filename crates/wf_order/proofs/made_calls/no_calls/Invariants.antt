-- So many rows are there.
use Rattle.std.proofs.Common.{◌≡◌, None, replicate}
use Rattle.wf_order.proofs.made_calls.no_calls.Given as goal

abbrev pub invariant-loop : goal.invariant-loop
invariant-loop g l = l.rows.items ≡ replicate l.counter None
