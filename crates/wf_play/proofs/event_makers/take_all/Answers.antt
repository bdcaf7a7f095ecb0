use Rattle.std.proofs.Common.{get_or}
use Rattle.std.proofs.lemmas.Option.{slice_get-get_or}
use Rattle.wf_table.specs.declared.schedule.Turns.{Turns}
use Rattle.wf_play.proofs.Makings.{schedule_next}
use Rattle.wf_play.proofs.event_makers.take_all.Goals as goal

pub loop-turns-preserved : goal.loop-turns-preserved
loop-turns-preserved g c =
    let h = c.loop-turns.invariant in
    let e = c.in_ok-take_turns.ensures in
    let none : Turns = record { process = 0; count = 0 } in
    let ts = c.args.schedule.now in
    let i = c.loop-turns.turns-index in
    let next = schedule_next g.E.Engine.meaning c.args.machine.now c.loop-turns.machine c.take_turns.new.machine ts i (get_or ts i none) c.args.makers.now.items c.loop-turns.makers.items c.take_turns.new.makers.items
    (slice_get-get_or ts i none c.loop-turns-test.true) h.object h.state h.makers e.object e.state e.makers in
    record { object = next.0; state = next.1; makers = next.2 }
