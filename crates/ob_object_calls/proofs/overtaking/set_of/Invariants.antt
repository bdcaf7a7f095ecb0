-- The set has the ids so far.
use Rattle.std.proofs.Common.{take, ◌↔◌}
use Rattle.std.specs.HashSet as bag
use Rattle.std.specs.Prelude.{IsTrue, Contains}
use Rattle.ob_object_run.specs.Places.{same_id}
use Rattle.ob_object_calls.proofs.overtaking.set_of.Given as goal
use Rattle.wf_history.specs.declared.event.CallId.{CallId}

abbrev pub invariant-loop-id : goal.invariant-loop-id
invariant-loop-id l = (q : CallId) → IsTrue (bag.contains same_id l.set q) ↔ Contains (take l.id-index l.ids) q
