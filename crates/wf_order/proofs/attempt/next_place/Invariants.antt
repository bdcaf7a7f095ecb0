-- Of the turns so far, those that begin behind the call, and before the place, need not be tried.
use Rattle.std.proofs.Common.{take, ◌<◌, List}
use Rattle.std.specs.List.{Contains}
use Rattle.ob_interface.specs.Call.{ObjectCall, Reply}
use Rattle.wf_history.specs.History.{Event}
use Rattle.wf_order.specs.declared.next_call.Turn.{Turn}
use Rattle.wf_order.specs.Search.{found_in, AreAnswered, IsAt}
use Rattle.wf_order.specs.Steps.{Configuration}
use Rattle.wf_order.proofs.attempt.next_place.Given as goal

abbrev pub invariant-loop-turn : goal.invariant-loop-turn
invariant-loop-turn g l =
    (history : List (Event ObjectCall Reply)) (found : List (Configuration g.O.Object.Meaning)) → IsAt history l.task.rows.now l.here →
    ((turn : Turn) → Contains (take l.turn-index l.turns) turn → l.tried.begun.place < turn.place → turn.place < l.first →
    AreAnswered (g.O.Object.effect l.task.object.now) history found (found_in g.O.Object.meaning l.here.found.now) turn.process)
    × (l.tried.begun.place < l.first)
