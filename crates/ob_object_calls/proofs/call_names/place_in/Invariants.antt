-- No call so far is the one that is looked for.
use Rattle.std.proofs.Common.{◌≡◌}
use Rattle.ob_object_calls.proofs.Items.{HoldsOfNone}
use Rattle.ob_object_calls.proofs.call_names.place_in.Given as goal
use Rattle.wf_history.specs.declared.event.CallId.{CallId}

abbrev pub invariant-loop-place : goal.invariant-loop-place
invariant-loop-place l = HoldsOfNone (λ (other : CallId). other ≡ l.id) l.order l.place
