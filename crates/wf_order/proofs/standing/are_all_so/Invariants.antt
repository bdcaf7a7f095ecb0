-- What is remembered was made, and those of the first processes come so.
use Rattle.std.proofs.Common.{◌<◌, ℕ, List}
use Rattle.ob_interface.specs.Call.{ObjectCall, Reply}
use Rattle.wf_history.specs.History.{Event}
use Rattle.wf_order.specs.MadeCalls.{AreMade}
use Rattle.wf_order.specs.Rules.{AreSo}
use Rattle.wf_order.specs.Search.{found_in, IsAt}
use Rattle.wf_order.proofs.standing.are_all_so.Given as goal

abbrev pub invariant-loop-process : goal.invariant-loop-process
invariant-loop-process g l =
    AreMade g.O.Object.meaning g.O.Object.words_of (g.O.Object.effect l.task.object.now) l.calls
    × ((history : List (Event ObjectCall Reply)) → IsAt history l.task.rows.now l.here → (process : ℕ) → process < l.process →
    AreSo (g.O.Object.effect l.task.object.now) history (found_in g.O.Object.meaning l.here.found.now) (g.O.Object.meaning l.before.state) process)
