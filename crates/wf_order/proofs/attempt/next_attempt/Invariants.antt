-- What begins before this place was tried, or need not be; and what is remembered was made.
use Rattle.std.proofs.Common.{◌-◌, ◌≤◌, List}
use Rattle.ob_interface.specs.Call.{ObjectCall, Reply}
use Rattle.wf_history.specs.History.{Event}
use Rattle.wf_order.specs.MadeCalls.{AreMade}
use Rattle.wf_order.specs.Rows.{begun_rows}
use Rattle.wf_order.specs.Search.{found_in, AreCovered, IsAt}
use Rattle.wf_order.specs.Steps.{Configuration}
use Rattle.wf_order.specs.Turns.{turns}
use Rattle.wf_order.proofs.attempt.next_attempt.Given as goal

abbrev pub invariant-loop-start : goal.invariant-loop-start
invariant-loop-start g l =
    AreMade g.O.Object.meaning g.O.Object.words_of (g.O.Object.effect l.task.object.now) l.calls
    × ((history : List (Event ObjectCall Reply)) (found : List (Configuration g.O.Object.Meaning)) → IsAt history l.task.rows.now l.here →
    AreCovered (g.O.Object.effect l.task.object.now) history found (found_in g.O.Object.meaning l.here.found.now) l.from l.start
    × (turns l.start (begun_rows l.task.rows.now) l.here.found.now.counts.items ≤ turns l.from (begun_rows l.task.rows.now) l.here.found.now.counts.items))
    × (l.from ≤ l.start)

abbrev pub decreases-loop-start : goal.decreases-loop-start
decreases-loop-start g l = l.limit - l.start
