use Rattle.std.proofs.Common.{◌<◌, length}
use Rattle.std.proofs.lemmas.Bool.{false≢true}
use Rattle.ob_text_reading.proofs.Seating.{begins_idle, busy_begins, idle_begins, seat_of}
use Rattle.ob_text_reading.proofs.process_calls.Calls.may_begin.Goals as goal

pub returns-in-Some : goal.returns-in-Some
returns-in-Some c =
    let below : c.args.id.process < length c.self.inside.seats.items = rw (← c.self.view_is) at c.requires in
    let seat = seat_of c.self.inside.history c.self.inside.seats.items c.args.id.process c.index-seat.result.now c.self.invariant below c.index-seat.ensures in
    let busy = rw c.in-Some.is at seat in
    rw (← c.self.view_is)
    (λ call. (λ t. absurd (false≢true t), λ h. absurd (busy_begins c.self.inside.history c.args.id call _ _ busy h)))

pub returns-in-None : goal.returns-in-None
returns-in-None c =
    let below : c.args.id.process < length c.self.inside.seats.items = rw (← c.self.view_is) at c.requires in
    let seat = seat_of c.self.inside.history c.self.inside.seats.items c.args.id.process c.index-seat.result.now c.self.invariant below c.index-seat.ensures in
    let idle = rw c.in-None.is at seat in
    rw (← c.self.view_is)
    (λ call. (
      λ t. begins_idle c.self.inside.history c.args.id call _ c.self.invariant.whole idle (c.is_after.ensures.0 t),
      λ h. c.is_after.ensures.1 (idle_begins c.self.inside.history c.args.id call _ idle h),
    ))
