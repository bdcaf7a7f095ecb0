-- Of the seats so far.
use Rattle.std.proofs.Common.{take, MatchOption, All}
use Rattle.ob_desk_floor.specs.Close.{IsLowestStranger, IsOwn}
use Rattle.ob_desk_floor.specs.Desk.{desk_in}
use Rattle.ob_desk_floor.proofs.seating.first_stranger.Given as goal

abbrev pub invariant-loop-seat : goal.invariant-loop-seat
invariant-loop-seat g l = MatchOption l.first (All (IsOwn (desk_in g.E.CodedEngine.code l.terms)) (take l.seat-index l.seats)) (IsLowestStranger (desk_in g.E.CodedEngine.code l.terms) (take l.seat-index l.seats))
