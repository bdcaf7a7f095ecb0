use Rattle.ob_desk_serve.specs.Joined.{AreJoined}
use Rattle.ob_desk_serve.proofs.gathering.join_all.Given as goal

abbrev pub invariant-loop-start : goal.invariant-loop-start
invariant-loop-start g l = AreJoined g.G.Gate.passes g.G.Gate.refuses g.G.Gate.hears g.D.TakeTurn.halts l.yielded l.workers.items
