-- No event so far is the End of a call of the set.
use Rattle.std.proofs.Common.{◌≡◌, map}
use Rattle.std.specs.HashSet as bag
use Rattle.std.specs.Prelude.{IsTrue}
use Rattle.ob_interface.specs.Call.{ObjectCall, Reply}
use Rattle.ob_object_run.specs.Places.{same_id}
use Rattle.ob_object_calls.proofs.Items.{HoldsOfNone}
use Rattle.ob_object_calls.proofs.overtaking.first_ended.Given as goal
use Rattle.wf_history.specs.History.{End, Event}
use Rattle.wf_history.specs.View.{event_of}
use Rattle.wf_history.specs.declared.event.CallId.{CallId}

abbrev pub invariant-loop-event : goal.invariant-loop-event
invariant-loop-event l =
    HoldsOfNone (λ (event : Event ObjectCall Reply). (id : CallId) × ((reply : Reply) × (IsTrue (bag.contains same_id l.set id) × (event ≡ End id reply))))
    (map event_of l.events) l.event-index
