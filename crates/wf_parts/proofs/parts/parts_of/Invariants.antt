use Rattle.std.proofs.Common.{map, take}
use Rattle.wf_history.specs.View.{event_of}
use Rattle.wf_parts.specs.Split.{AreSplit}
use Rattle.wf_parts.specs.SplitView.{split_in}
use Rattle.wf_parts.proofs.parts.parts_of.Given as goal

-- the parts are those of the events so far
abbrev pub invariant-loop-event : goal.invariant-loop-event
invariant-loop-event l = AreSplit l.history l.by (take l.event-index (map event_of l.events)) (split_in l.split)
