-- One order, and the marks: lengths of the history at each process's last FLIP, and where each block became the root.
use Rattle.std.specs.Prelude.{◌≡◌, ℕ, ◌+◌, ◌<◌, ◌≤◌, List, [], ◌∷◌, ◌++◌, length, take, slice_index}
use Rattle.ob_interface.specs.Call.{ObjectCall, Reply}
use Rattle.wf_history.specs.declared.event.CallId.{CallId}
use Rattle.wf_history.specs.History.{Event, Begin, Applied, End}
use Rattle.wf_table.specs.declared.process.Sizes.{Sizes}
use Rattle.wf_table.specs.Object.{Records}

-- the calls that the events of a history applied, in order
abbrev pub applied_in : List (Event ObjectCall Reply) → List CallId
applied_in [] = []
applied_in (Begin id call ∷ events) = applied_in events
applied_in (Applied ids ∷ events) = ids ++ applied_in events
applied_in (End id reply ∷ events) = applied_in events

-- the order is what was applied; the root is the block that became root last, and no call was applied since
pub record IsMarked (z : Sizes) (root : ℕ) (r : Records) : Type 0 where
  pub count_flips : length r.flip_marks ≡ z.processes
  pub count_roots : length r.root_marks ≡ z.processes + 1
  pub flips : (p : ℕ) → p < z.processes → slice_index r.flip_marks p ≤ length r.history
  pub roots : (b : ℕ) → b < z.processes + 1 → slice_index r.root_marks b ≤ slice_index r.root_marks root
  pub newest : slice_index r.root_marks root ≤ length r.history
  pub order : applied_in r.history ≡ r.order
  pub since : applied_in (take (slice_index r.root_marks root) r.history) ≡ r.order
