-- The calls so far are listed.
use Rattle.std.proofs.Common.{◌≡◌, map, take}
use Rattle.wf_history.specs.View.{event_of}
use Rattle.wf_needed.proofs.listed_calls.listed_all.Given as goal
use Rattle.wf_needed.specs.Listed.{AreListed, ids_of}

abbrev pub invariant-loop-id : goal.invariant-loop-id
invariant-loop-id l = (ids_of l.all.items ≡ take l.id-index l.order) × AreListed (map event_of l.events) l.all.items
