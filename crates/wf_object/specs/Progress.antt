-- What a process's own steps change, but for what is noted of them.
use Rattle.std.specs.Prelude.{◌≡◌, ℕ, zero, suc, ◌<◌, ℤ, List, Some, true, slice_get}
use Rattle.ll_cell.specs.Cell.{Cell}
use Rattle.ll_cell.specs.declared.form.Form.{Form}
use Rattle.ob_interface.specs.Call.{ObjectCall}
use Rattle.wf_table.specs.declared.process.Sizes.{Sizes}
use Rattle.wf_table.specs.Meaning.{Meaning}
use Rattle.wf_table.specs.Object.{State}
use Rattle.wf_table.specs.StepTable.{Process, cell_after, row}
use Rattle.wf_table.specs.declared.spent.Spent.{Spent}
use Rattle.wf_table.specs.Spent.{has_more, spent_after}
use Rattle.wf_table.specs.Counted.{spent_of}
use Rattle.wf_records.specs.Spending.{outside_more}
use Rattle.wf_object.specs.Kept.{IsKept}
use Rattle.wf_object.specs.Quiet.{is_unmarked}

-- the cell, the process, and what it has spent
pub record Progress (Run : Type 0) : Type 0 where
  pub cell : Cell
  pub process : Process Run
  pub spent : Spent

abbrev pub progress : {Run : Type 0} → Cell → Process Run → Spent → Progress Run
progress c q x = record { cell = c; process = q; spent = x }

-- the cell, the process, and what it has spent with so many steps outside bodies that are not yet counted
abbrev pub progress_on : {Run : Type 0} → Cell → Process Run → Spent → ℕ → Progress Run
progress_on c q x n = progress c q (outside_more x n)

module _ {Run : Type 0} (m : Meaning Run) (z : Sizes) (p : ℕ) where
  -- behind the row of the process's label
  abbrev pub by_row : Progress Run → Progress Run
  by_row h = progress
      (cell_after h.cell p (row h.process.label m z h.cell p h.process).change)
      (row h.process.label m z h.cell p h.process).process
      (spent_after h.process.label (has_more h.process) h.spent)

  -- behind so many rows, one after the other
  abbrev pub by_rows : ℕ → Progress Run → Progress Run
  by_rows zero h = h
  by_rows (suc k) h = by_row (by_rows k h)

  -- of each of them nothing but its turn is noted
  abbrev pub AreUnmarked : ℕ → Progress Run → Type 0
  AreUnmarked k h = (j : ℕ) → j < k → is_unmarked (by_rows j h).process.label ≡ true

-- the cell, the process and what it has spent are those of an object
pub record IsInObject {Run : Type 0} (m : Meaning Run) (lawful : List ℤ → Type 0) (fits : ObjectCall → Type 0) (ready : Run → Type 0) (z : Sizes) (p : ℕ) (h : Progress Run) : Type 0 where
  pub opening : List ℤ
  pub state : State Run
  pub process : Process Run
  pub spent : List Spent
  pub form : Form
  pub kept : IsKept m lawful fits ready z opening state spent form
  pub here : slice_get state.processes p ≡ Some process
  pub is : h ≡ progress state.cell process (spent_of spent p)
