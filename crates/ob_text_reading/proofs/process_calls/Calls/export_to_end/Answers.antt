use Rattle.std.proofs.Common.{◌<◌, length}
use Rattle.ob_text_reading.proofs.Seating.{not_open, open_call, seat_of}
use Rattle.ob_text_reading.proofs.process_calls.Calls.export_to_end.Goals as goal

pub returns-then-seat-id : goal.returns-then-seat-id
returns-then-seat-id c =
    let below : c.args.id.process < length c.self.inside.seats.items = rw (← c.self.view_is) at c.requires in
    let seat = seat_of c.self.inside.history c.self.inside.seats.items c.args.id.process c.index-seat.result.now c.self.invariant below c.index-seat.ensures in
    rw (← c.self.view_is) (open_call c.self.inside.history c.args.id _ _ c.if-seat-id.true c.self.invariant.whole seat)

pub returns-else-seat-id : goal.returns-else-seat-id
returns-else-seat-id c =
    let below : c.args.id.process < length c.self.inside.seats.items = rw (← c.self.view_is) at c.requires in
    let seat = seat_of c.self.inside.history c.self.inside.seats.items c.args.id.process c.index-seat.result.now c.self.invariant below c.index-seat.ensures in
    rw (← c.self.view_is) (λ reply h. not_open c.self.inside.history c.args.id reply _ _ c.if-seat-id.false seat h)
