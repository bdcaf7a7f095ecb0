-- A fact of each process.
use Rattle.std.specs.Prelude.{◌≡◌, ℕ, List, Some, slice_get}
use Rattle.wf_table.specs.StepTable.{Process}

abbrev pub Each : {Run : Type 0} → (ℕ → Process Run → Type 0) → List (Process Run) → Type 0
Each {Run} P ps = (p : ℕ) (q : Process Run) → slice_get ps p ≡ Some q → P p q
