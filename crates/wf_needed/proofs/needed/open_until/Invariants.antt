-- None of the calls behind the last open one so far is open.
use Rattle.std.proofs.Common.{◌≡◌, ◌<◌, ◌≤◌, ℕ, Some, slice_get}
use Rattle.wf_needed.proofs.needed.open_until.Given as goal
use Rattle.wf_needed.specs.Listed.{IsOpenCall}
use Rattle.wf_needed.specs.declared.listed_calls.Listed as Rust

abbrev pub invariant-loop-place : goal.invariant-loop-place
invariant-loop-place l =
    (l.until ≤ l.place) × ((k : ℕ) (c : Rust.Listed) → l.until ≤ k → k < l.place → slice_get l.all k ≡ Some c → ¬ IsOpenCall c)
