use Rattle.std.proofs.Common.{◌≡◌, map, take}
use Rattle.wf_parts.proofs.copying.copied.Given as goal
use Rattle.wf_history.specs.View.{event_of}

abbrev pub invariant-loop-event : goal.invariant-loop-event
invariant-loop-event l = l.history ≡ take l.event-index (map event_of l.events)
