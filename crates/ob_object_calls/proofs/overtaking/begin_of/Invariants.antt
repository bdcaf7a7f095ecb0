-- No event so far is the Begin of the call.
use Rattle.std.proofs.Common.{◌≡◌, map}
use Rattle.ob_interface.specs.Call.{ObjectCall, Reply}
use Rattle.ob_object_calls.proofs.Items.{HoldsOfNone}
use Rattle.ob_object_calls.proofs.overtaking.begin_of.Given as goal
use Rattle.wf_history.specs.History.{Begin, Event}
use Rattle.wf_history.specs.View.{event_of}

abbrev pub invariant-loop-place : goal.invariant-loop-place
invariant-loop-place l = HoldsOfNone (λ (event : Event ObjectCall Reply). (call : ObjectCall) × (event ≡ Begin l.id call)) (map event_of l.events) l.place
