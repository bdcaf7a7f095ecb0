use Rattle.std.proofs.Common.{◌≡◌, ℕ, ◌+◌, ◌-◌, length}
use Rattle.wf_order.specs.Rows.{row_of}
use Rattle.wf_parts.specs.View.{rows_in}
use Rattle.wf_parts.proofs.part.reach.Given as goal

-- the rows so far are those that there were
abbrev pub invariant-loop-alloc : goal.invariant-loop-alloc
invariant-loop-alloc l = (q : ℕ) → row_of (rows_in l.numbers.items) q ≡ row_of (rows_in l.fn.numbers.items) q

abbrev pub decreases-loop-alloc : goal.decreases-loop-alloc
decreases-loop-alloc l = l.process + 1 - length l.numbers.items
