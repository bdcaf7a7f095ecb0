use Rattle.std.proofs.Common.{◌+◌, refl, subst, sym}
use Rattle.ob_desk_floor.specs.Desk.{desk_in}
use Rattle.ob_desk_floor.proofs.Strangers.{Found, own_next, stranger_next}
use Rattle.ob_desk_floor.proofs.seating.first_stranger.Goals.{then-not-is_own, else-not-is_own}
use Rattle.ob_desk_floor.proofs.seating.first_stranger.Goals as goal

pub loop-seat-preserved : goal.loop-seat-preserved
loop-seat-preserved g c =
    let d = desk_in g.E.CodedEngine.code c.args.terms.now in
    let seats = c.args.seats.now in
    let i = c.loop-seat.seat-index in
    let s = c.seat-item.result in
    elim c.if-not-is_own.branch [
      | then-not-is_own w ↦
          subst (Found d seats (i + 1)) (sym w.first-is)
          (stranger_next d seats i s c.loop-seat-test.true c.seat-item.is c.loop-seat.first w.lower.result (w.if-not-is_own.ensures.no refl) (rw w.process.ensures at w.lower.ensures) c.loop-seat.invariant)
      | else-not-is_own w ↦
          subst (Found d seats (i + 1)) (sym w.first-is)
          (own_next d seats i s c.loop-seat-test.true c.seat-item.is c.loop-seat.first (w.if-not-is_own.ensures.yes refl) c.loop-seat.invariant)
    ]
