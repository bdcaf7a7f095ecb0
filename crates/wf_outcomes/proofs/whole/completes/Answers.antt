-- By the law that is its contract.
use Rattle.wf_outcomes.specs.Explored.{calls_in}
use Rattle.wf_outcomes.proofs.Completing.{all_completed}
use Rattle.wf_outcomes.proofs.whole.completes.Goals as goal

pub returns : goal.returns
returns g c = all_completed (g.O.Object.effect c.args._object.now) (calls_in c.args._scripts.now) (g.O.Object.opening c.args._object.now)
