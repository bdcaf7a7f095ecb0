use Rattle.wf_outcomes.specs.Explored.{all_kept}
use Rattle.wf_outcomes.proofs.Full.{AreFull}
use Rattle.wf_outcomes.proofs.explored.Explored.finals.Given as goal

abbrev pub invariant-loop-place : goal.invariant-loop-place
invariant-loop-place g l = AreFull (all_kept g.O.Object.meaning l.self.seen) l.full.items l.places.items l.place
