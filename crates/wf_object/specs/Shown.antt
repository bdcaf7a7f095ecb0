-- What a step that shows something takes, and what it leaves.
use Rattle.std.specs.Prelude.{List, Option, Some, None}
use Rattle.ll_cell.specs.Cell.{Cell}
use Rattle.wf_table.specs.StepTable.{Process}
use Rattle.wf_table.specs.Object.{State, Records}
use Rattle.wf_table.specs.declared.spent.Spent.{Spent}
use Rattle.wf_table.specs.Spent.{has_more, spent_after}

module _ {Run : Type 0} where
  abbrev pub state_of : Cell → List (Process Run) → Records → State Run
  state_of c ps r = record { cell = c; processes = ps; records = r }

  -- what a process has spent behind its step
  abbrev pub spent_by : Option (Process Run) → Spent → Spent
  spent_by None x = x
  spent_by (Some q) x = spent_after q.label (has_more q) x
