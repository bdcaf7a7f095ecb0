use Rattle.std.proofs.Common.{map}
use Rattle.wf_outcomes.specs.Explored.{all_kept, calls_in}
use Rattle.wf_outcomes.specs.Possible.{had_in}
use Rattle.wf_outcomes.proofs.Replying.{AreSoFar}
use Rattle.wf_outcomes.proofs.explored.Explored.replies_of.Given as goal

abbrev pub invariant-loop-row : goal.invariant-loop-row
invariant-loop-row g l =
    ∥ AreSoFar (g.O.Object.effect l.self.object.now) (calls_in l.self.scripts.now) (all_kept g.O.Object.meaning l.self.seen) l.self.telling.items l.id (map had_in l.replies.items) l.row ∥₁
