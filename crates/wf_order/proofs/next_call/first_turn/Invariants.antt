-- Of the turns so far.
use Rattle.std.proofs.Common.{take}
use Rattle.wf_order.specs.Turns.{IsFirstIn}
use Rattle.wf_order.proofs.next_call.first_turn.Given as goal

abbrev pub invariant-loop-turn : goal.invariant-loop-turn
invariant-loop-turn l = IsFirstIn (take l.turn-index l.turns) l.from l.limit l.first
