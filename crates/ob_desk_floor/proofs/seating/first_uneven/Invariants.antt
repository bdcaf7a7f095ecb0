use Rattle.std.proofs.Common.{◌≡◌, ◌<◌, ℕ}
use Rattle.ob_desk_floor.specs.Close.{seats_at}
use Rattle.ob_desk_floor.proofs.seating.first_uneven.Given as goal

abbrev pub invariant-loop-process : goal.invariant-loop-process
invariant-loop-process g l = (p : ℕ) → p < l.process → seats_at p l.seats ≡ 1
