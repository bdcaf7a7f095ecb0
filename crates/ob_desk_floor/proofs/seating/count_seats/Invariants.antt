use Rattle.std.proofs.Common.{◌≡◌, take}
use Rattle.ob_desk_floor.specs.Close.{seats_at}
use Rattle.ob_desk_floor.proofs.seating.count_seats.Given as goal

abbrev pub invariant-loop-seat : goal.invariant-loop-seat
invariant-loop-seat l = l.count ≡ seats_at l.process (take l.seat-index l.seats)
