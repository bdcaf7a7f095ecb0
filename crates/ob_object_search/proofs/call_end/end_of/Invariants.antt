-- None of the events so far is the call's end.
use Rattle.std.proofs.Common.{map}
use Rattle.ob_object_search.proofs.Ended.{NoEndBelow}
use Rattle.ob_object_search.proofs.call_end.end_of.Given as goal
use Rattle.wf_history.specs.View.{event_of}

abbrev pub invariant-loop-place : goal.invariant-loop-place
invariant-loop-place l = NoEndBelow l.names (map event_of l.events) l.id l.place
