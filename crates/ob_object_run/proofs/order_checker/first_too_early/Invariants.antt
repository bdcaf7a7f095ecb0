-- The least End behind, and the first call so far that begins after it.
use Rattle.ob_object_run.proofs.order_checker.first_too_early.Given as goal
use Rattle.ob_object_run.specs.PlacedCalls.{placed_all}
use Rattle.ob_object_run.proofs.Early.{IsLeast, IsFirstFrom}

abbrev pub invariant-loop-k : goal.invariant-loop-k
invariant-loop-k l = IsLeast (placed_all l.places l.order) l.k l.least × IsFirstFrom (placed_all l.places l.order) l.k l.first
