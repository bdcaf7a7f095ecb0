-- What ends before a place is taken.
use Rattle.std.proofs.Common.{◌≡◌, ◌<◌, ℕ, List, Some, map}
use Rattle.std.specs.List.{slice_get}
use Rattle.ob_interface.specs.Call.{Reply}
use Rattle.wf_history.specs.declared.event.CallId.{CallId}
use Rattle.wf_history.specs.History.{End}
use Rattle.wf_history.specs.View.{event_of}
use Rattle.wf_order.specs.Steps.{IsLimit, IsOneMore, IsTaken}
use Rattle.wf_order.proofs.rows.next_limit.Given as goal

abbrev pub invariant-loop-place : goal.invariant-loop-place
invariant-loop-place l = (before : List ℕ) (id : CallId) → IsOneMore before id l.counts → IsLimit (map event_of l.events) before l.limit →
    (a : CallId) (reply : Reply) (k : ℕ) → slice_get (map event_of l.events) k ≡ Some (End a reply) → k < l.place → IsTaken l.counts a
