use Rattle.std.proofs.Common.{◌<◌, ℕ}
use Rattle.ob_desk_floor.specs.Close.{AgreeAt}
use Rattle.ob_desk_floor.proofs.closing.first_apart.Given as goal

abbrev pub invariant-loop-process : goal.invariant-loop-process
invariant-loop-process g l = (p : ℕ) → p < l.process → AgreeAt l.floor l.seats p
