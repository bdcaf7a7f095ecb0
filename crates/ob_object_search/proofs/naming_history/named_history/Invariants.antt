use Rattle.std.proofs.Common.{◌≡◌, map, take}
use Rattle.ob_object_search.proofs.naming_history.named_history.Given as goal
use Rattle.ob_text_reading.specs.Names.{named_all}
use Rattle.wf_history.specs.View.{event_of}

abbrev pub invariant-loop-event : goal.invariant-loop-event
invariant-loop-event l = l.copy ≡ named_all l.names (take l.event-index (map event_of l.events))
