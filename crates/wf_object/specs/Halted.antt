-- Processes that have nothing left to do.
use Rattle.std.specs.Prelude.{ℕ, Bool, true, ◌&&◌, not, Option, Some, None, slice_get}
use Rattle.wf_table.specs.Labels.{at_next}
use Rattle.wf_table.specs.StepTable.{Process}
use Rattle.wf_table.specs.Object.{State}
use Rattle.wf_table.specs.Spent.{has_more}

module _ {Run : Type 0} where
  abbrev pub is_halted_by : Option (Process Run) → Bool
  is_halted_by None = true
  is_halted_by (Some q) = at_next q.label && not (has_more q)

  -- the process stands at NEXT and its script has no call left
  abbrev pub is_halted : State Run → ℕ → Bool
  is_halted s p = is_halted_by (slice_get s.processes p)
