use Rattle.wf_play.proofs.Leading.{stays, turn_more}
use Rattle.wf_play.proofs.ended.take_turns.Goals as goal

pub loop-turn-init : goal.loop-turn-init
loop-turn-init g c = stays g.E.Engine.meaning c.args.machine.now c.args.ended.now.items

pub loop-turn-preserved : goal.loop-turn-preserved
loop-turn-preserved g c =
    turn_more g.E.Engine.meaning c.args.p c.loop-turn._turn c.args.machine.now c.loop-turn.machine c.take_turn.new.machine
    c.args.ended.now.items c.loop-turn.ended.items c.take_turn.new.ended.items c.loop-turn.invariant c.in_ok-take_turn.ensures
