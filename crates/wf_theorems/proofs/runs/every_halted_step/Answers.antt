use Rattle.wf_theorems.proofs.Halted.{halted_stays}
use Rattle.wf_theorems.proofs.runs.every_halted_step.Goals as goal

pub returns : goal.returns
returns g c = λ e z s p q at is none. halted_stays (g.E.Engine.meaning e) z s p q at is none
