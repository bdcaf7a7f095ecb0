use Rattle.wf_outcomes.specs.Explored.{all_kept}
use Rattle.wf_outcomes.specs.Outcomes.{AreGood}
use Rattle.wf_outcomes.specs.Questions.{IsAnswered}
use Rattle.wf_outcomes.proofs.explored.Explored.first_failing.Given as goal

abbrev pub invariant-loop-place : goal.invariant-loop-place
invariant-loop-place g l =
    AreGood (IsAnswered (g.O.Object.effect l.self.object.now) l.question) (all_kept g.O.Object.meaning l.self.seen) l.place
