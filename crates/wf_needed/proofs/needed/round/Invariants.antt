-- The round has come so far.
use Rattle.wf_needed.proofs.needed.round.Given as goal
use Rattle.wf_needed.specs.Listed.{IsRound}

abbrev pub invariant-loop-place : goal.invariant-loop-place
invariant-loop-place g l = IsRound (g.O.Object.effect l.object) (g.O.Object.opening l.object) l.all l.place l.kept.items (g.O.Object.meaning l.state)
