-- No event so far is the End of the call.
use Rattle.std.proofs.Common.{◌≡◌, map}
use Rattle.ob_interface.specs.Call.{ObjectCall, Reply}
use Rattle.ob_object_calls.proofs.Items.{HoldsOfNone}
use Rattle.ob_object_calls.proofs.history_ends.told_reply.Given as goal
use Rattle.wf_history.specs.History.{End, Event}
use Rattle.wf_history.specs.View.{event_of}

abbrev pub invariant-loop-event : goal.invariant-loop-event
invariant-loop-event l = HoldsOfNone (λ (event : Event ObjectCall Reply). (reply : Reply) × (event ≡ End l.id reply)) (map event_of l.events) l.event-index
