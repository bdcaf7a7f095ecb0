use Rattle.ob_desk_serve.specs.Joined.{AreStartsOf}
use Rattle.ob_desk_serve.proofs.gathering.fn.gather.scope.Given as goal

abbrev pub invariant-loop-seat : goal.invariant-loop-seat
invariant-loop-seat g l = AreStartsOf l.desk l.gate l.limit l.yielded l.starts.items
