use Rattle.std.proofs.Common.{◌≡◌, map, take}
use Rattle.wf_lookup.proofs.opened.open_calls.Given as goal
use Rattle.wf_lookup.specs.Beginnings.{open_calls}
use Rattle.wf_history.specs.View.{event_of}

abbrev pub invariant-loop-event : goal.invariant-loop-event
invariant-loop-event l = l.ids.items ≡ open_calls (take l.event-index (map event_of l.events))
