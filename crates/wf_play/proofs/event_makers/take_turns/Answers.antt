use Rattle.std.proofs.Common.{◌+◌, ap, arith, refl}
use Rattle.wf_play.proofs.Ends.{still_same}
use Rattle.wf_play.proofs.Makings.{turns_quiet, turns_next}
use Rattle.wf_play.proofs.event_makers.take_turns.Goals as goal

pub loop-taken-preserved : goal.loop-taken-preserved
loop-taken-preserved g c =
    let h = c.loop-taken.invariant in
    let e = c.in_ok-take_turn.ensures in
    let a = c.args.machine.now in
    let u = c.take_turn.new.machine in
    let v = c.go_on-taken.new.self in
    let k = c.loop-taken.taken in
    let j = c.go_on-taken.result in
    let stayed = c.go_on-taken.ensures in
    let next = turns_next g.E.Engine.meaning a c.loop-taken.machine u c.args.p k c.args.makers.now.items c.loop-taken.makers.items c.take_turn.new.makers.items h.object h.state h.makers e.object e.state e.makers in
    let more = turns_quiet g.E.Engine.meaning a u v c.args.p (k + 1) j c.args.makers.now.items c.take_turn.new.makers.items next.0 next.1 next.2 (still_same u v u _ _ stayed.stepped (record { engine = refl; sizes = refl; opening = refl })) (ap (λ o. o.state) stayed.stepped) stayed.quiet in
    record { object = more.0; few = omega (arith, stayed.few); state = more.1; makers = more.2 }
