-- The next calls of the processes so far end before the place.
use Rattle.std.proofs.Common.{◌≡◌, ◌<◌, ℕ, Some, get_or}
use Rattle.std.specs.List.{slice_get}
use Rattle.wf_order.specs.declared.rows.Ended.{Ended}
use Rattle.wf_order.specs.Rows.{ended_rows, row_of}
use Rattle.wf_order.proofs.front.goes_behind.Given as goal

abbrev pub invariant-loop-process : goal.invariant-loop-process
invariant-loop-process l = (q : ℕ) (end : Ended) → q < l.process → slice_get (row_of (ended_rows l.rows) q) (get_or l.counts q 0) ≡ Some end → end.place < l.place
