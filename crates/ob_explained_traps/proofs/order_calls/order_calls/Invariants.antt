-- The calls so far, as they began.
use Rattle.std.proofs.Common.{map, take}
use Rattle.ob_explained_traps.specs.RecordTraps.{AreBegun}
use Rattle.ob_mean.specs.View.{call_of}
use Rattle.wf_history.specs.View.{event_of}
use Rattle.ob_explained_traps.proofs.order_calls.order_calls.Given as goal

abbrev pub invariant-loop-id : goal.invariant-loop-id
invariant-loop-id l = AreBegun (map event_of l.events) (take l.id-index l.order) (map call_of l.calls.items)
