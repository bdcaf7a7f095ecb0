use Rattle.std.proofs.Common.{◌≡◌}
use Rattle.ob_desk_floor.specs.Desk.{seats_of}
use Rattle.ob_desk_floor.proofs.desk.seats.Given as goal

abbrev pub invariant-loop-process : goal.invariant-loop-process
invariant-loop-process l = l.seats.items ≡ seats_of l.process l.tag
