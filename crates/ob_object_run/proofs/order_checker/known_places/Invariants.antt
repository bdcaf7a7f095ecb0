-- The ids so far have their places, and none of them is unknown.
use Rattle.std.proofs.Common.{◌≡◌, ℕ, ◌<◌, map, take, Some, ◌↔◌}
use Rattle.std.specs.Prelude.{slice_get, IsSome, Contains}
use Rattle.ob_object_run.proofs.order_checker.known_places.Given as goal
use Rattle.wf_history.specs.declared.event.CallId.{CallId}
use Rattle.ob_object_run.specs.OrderFaults.{IsUnknown}
use Rattle.ob_object_run.specs.Noted.{noted_in}
use Rattle.ob_object_run.specs.Places.{ArePlaced}
use Rattle.ob_object_run.specs.PlacedCalls.{placed_all}
use Rattle.wf_history.specs.View.{event_of}

abbrev pub invariant-loop-id : goal.invariant-loop-id
invariant-loop-id l = record {
  placed : ArePlaced (map event_of l.fn.events) (placed_all l.places (take l.id-index l.order));
  seen : (q : CallId) → IsSome (noted_in l.seen q) ↔ Contains (take l.id-index l.order) q;
  known : (k : ℕ) (other : CallId) → k < l.id-index → slice_get l.order k ≡ Some other → ¬ IsUnknown (map event_of l.fn.events) l.order k other;
}
