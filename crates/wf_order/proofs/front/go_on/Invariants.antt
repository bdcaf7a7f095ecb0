-- What was found, and what is still to be done.
use Rattle.std.proofs.Common.{map, false}
use Rattle.wf_history.specs.View.{event_of}
use Rattle.wf_order.specs.MadeCalls.{AreMade}
use Rattle.wf_order.specs.Search.{all_found, AreWorded, IsGrown, IsLed, IsSearch, work}
use Rattle.wf_order.specs.Steps.{start_at}
use Rattle.wf_order.proofs.front.go_on.Given as goal

abbrev pub invariant-loop-frame : goal.invariant-loop-frame
invariant-loop-frame g l = record {
  search : IsSearch (g.O.Object.effect l.task.object.now) (map event_of l.task.events.now) l.processes (IsLed (g.O.Object.effect l.task.object.now) (map event_of l.task.events.now) false (start_at l.processes (g.O.Object.opening l.task.object.now)))
      (start_at l.processes (g.O.Object.opening l.task.object.now)) (all_found g.O.Object.meaning l.seen) l.stack.items;
  worded : AreWorded g.O.Object.meaning g.O.Object.words_of l.seen;
  grown : IsGrown l.initial.seen.keys l.seen.keys;
  made : AreMade g.O.Object.meaning g.O.Object.words_of (g.O.Object.effect l.task.object.now) l.calls;
}

abbrev pub decreases-loop-frame : goal.decreases-loop-frame
decreases-loop-frame g l = work l.processes l.task.rows.now (all_found g.O.Object.meaning l.seen) l.stack.items
