use Rattle.std.proofs.Common.{All, map, refl, subst}
use Rattle.std.proofs.lemmas.List.{take_all}
use Rattle.std.proofs.lemmas.List.Elements.{All-more}
use Rattle.ob_desk_floor.specs.Agreeing.{AgreesAt}
use Rattle.wf_history.specs.History.{own_answers}
use Rattle.wf_history.specs.View.{event_of}
use Rattle.ob_desk_floor.proofs.agreeing.agree.Goals as goal

pub loop-seat-preserved : goal.loop-seat-preserved
loop-seat-preserved c =
    let P = AgreesAt c.args.process c.args.turns (own_answers c.args.process (map event_of c.args.events.now)) in
    let here : P c.seat-item.result = c.if-not-agrees.ensures.yes refl in
    All-more P c.args.seats.now c.loop-seat.seat-index c.seat-item.result c.loop-seat-test.true c.loop-seat.invariant (subst P c.seat-item.is here)

pub returns-clause-yes : goal.returns-clause-yes
returns-clause-yes c =
    let P = AgreesAt c.args.process c.args.turns (own_answers c.args.process (map event_of c.args.events.now)) in
    λ _. subst (All P) (take_all c.loop-seat.seat-index c.args.seats.now c.loop-seat-test.false) c.loop-seat.invariant
