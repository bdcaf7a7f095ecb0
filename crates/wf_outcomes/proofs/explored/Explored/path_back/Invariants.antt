-- The calls so far lead from here to the configuration.
use Rattle.std.proofs.Common.{◌<◌, length}
use Rattle.wf_outcomes.specs.Explored.{all_kept, calls_in}
use Rattle.wf_outcomes.proofs.Backward.{IsBackFrom}
use Rattle.wf_outcomes.proofs.explored.Explored.path_back.Given as goal

abbrev pub invariant-loop-at : goal.invariant-loop-at
invariant-loop-at g l = record {
  within : l.at < length (all_kept g.O.Object.meaning l.self.seen);
  back : ∥ IsBackFrom (g.O.Object.effect l.self.object.now) (calls_in l.self.scripts.now) (all_kept g.O.Object.meaning l.self.seen) l.place l.at l.path.items ∥₁;
}

abbrev pub decreases-loop-at : goal.decreases-loop-at
decreases-loop-at g l = l.at
