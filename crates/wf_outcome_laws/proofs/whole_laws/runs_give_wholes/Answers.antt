-- By what is told along a legal order.
use Rattle.wf_outcomes.specs.Explored.{calls_in}
use Rattle.wf_outcome_laws.proofs.Running.{runs_give}
use Rattle.wf_outcome_laws.proofs.whole_laws.runs_give_wholes.Goals as goal

pub returns : goal.returns
returns g c = runs_give (g.O.Object.effect c.args._object.now) (calls_in c.args._scripts.now) (g.O.Object.opening c.args._object.now)
