-- What a linked process has fetched of the call that it serves.
use Rattle.std.specs.Prelude.{◌≡◌, ℕ, ◌<◌, Bool, true, false, ℤ, List, Some, slice_get}
use Rattle.ll_cell.specs.Cell.{Cell, is_linked, announcement_of, word_at}
use Rattle.wf_table.specs.declared.process.Label.{Label}
use Rattle.wf_table.specs.declared.process.Label.TheVariants.{Fetch, Check2}
use Rattle.wf_table.specs.Labels.{fetching}
use Rattle.wf_table.specs.StepTable.{Process}
use Rattle.wf_table.specs.Object.{State}

-- fetched front, of a process that stands at q and is linked or not, with the announcement of the process that it serves
pub record Fetches {Run : Type 0} (linked : Bool) (said : List ℤ) (q : Process Run) : Type 0 where
  pub words : fetching q.label ≡ true → linked ≡ true → (k : ℕ) → k < q.registers.i → word_at q.list k ≡ word_at said k

abbrev pub AllFetch : {Run : Type 0} → Cell → ℕ → Process Run → Type 0
AllFetch c p q = Fetches (is_linked c p) (announcement_of c q.registers.j) q

-- process p stands at q, linked at CHECK2, and serves the process that stands at o
pub record ServesCall {Run : Type 0} (s : State Run) (p : ℕ) (q o : Process Run) : Type 0 where
  pub here : slice_get s.processes p ≡ Some q
  pub label : q.label ≡ Check2
  pub linked : is_linked s.cell p ≡ true
  pub there : slice_get s.processes q.registers.j ≡ Some o
