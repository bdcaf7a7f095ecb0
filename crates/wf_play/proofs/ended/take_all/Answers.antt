use Rattle.std.proofs.Common.{get_or}
use Rattle.std.proofs.lemmas.Option.{slice_get-get_or}
use Rattle.wf_table.specs.declared.schedule.Turns.{Turns}
use Rattle.wf_play.proofs.Leading.{stays, turns_more}
use Rattle.wf_play.proofs.ended.take_all.Goals as goal

pub loop-turns-init : goal.loop-turns-init
loop-turns-init g c = stays g.E.Engine.meaning c.args.machine.now c.args.ended.now.items

pub loop-turns-preserved : goal.loop-turns-preserved
loop-turns-preserved g c =
    let none : Turns = record { process = 0; count = 0 } in
    let ts = c.args.schedule.now in
    let i = c.loop-turns.turns-index in
    turns_more g.E.Engine.meaning ts i (get_or ts i none) c.args.machine.now c.loop-turns.machine c.take_turns.new.machine
    c.args.ended.now.items c.loop-turns.ended.items c.take_turns.new.ended.items (slice_get-get_or ts i none c.loop-turns-test.true)
    c.loop-turns.invariant c.in_ok-take_turns.ensures
