-- The states so far.
use Rattle.std.proofs.Common.{◌≡◌, ◌+◌, ◌-◌, ◌<◌, ◌≤◌, ℕ, length, map}
use Rattle.std.specs.List.{slice_get}
use Rattle.ob_object_search.specs.Kept.{kept_in}
use Rattle.ob_store.specs.View.{state_of}
use Rattle.wf_outcomes.specs.Explored.{all_kept, state_at}
use Rattle.ob_object_outcomes.proofs.wholes.states_from.Given as goal

abbrev pub invariant-loop-place : goal.invariant-loop-place
invariant-loop-place l = record {
  low : l.first ≤ l.place;
  size : length (map state_of l.own.items) ≡ l.place - l.first;
  so_far : (k : ℕ) → l.first + k < l.place → slice_get (map state_of l.own.items) k ≡ state_at (all_kept kept_in l.explored.seen) (l.first + k);
}
