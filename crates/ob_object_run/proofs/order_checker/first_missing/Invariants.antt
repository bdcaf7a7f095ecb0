-- No event so far is the End of a call that the list lacks.
use Rattle.std.proofs.Common.{◌≡◌, ℕ, ◌<◌, ◌↔◌, List, map, Some}
use Rattle.std.specs.Prelude.{slice_get, IsSome, Contains}
use Rattle.ob_interface.specs.Call.{ObjectCall, Reply}
use Rattle.ob_object_run.proofs.order_checker.first_missing.Given as goal
use Rattle.wf_history.specs.History.{Event}
use Rattle.wf_history.specs.declared.event.CallId.{CallId}
use Rattle.ob_object_run.specs.Noted.{noted_in}
use Rattle.ob_object_run.specs.OrderFaults.{EndsUnlisted}
use Rattle.wf_history.specs.View.{event_of}

abbrev pub invariant-loop-event : goal.invariant-loop-event
invariant-loop-event l =
    (order : List CallId) → ((q : CallId) → IsSome (noted_in l.listed q) ↔ Contains order q) → (k : ℕ) (other : Event ObjectCall Reply) → k < l.event-index → slice_get (map event_of l.events) k ≡ Some other →
    ¬ EndsUnlisted (map event_of l.events) order k other
