-- By the run in which the calls run alone.
use Rattle.wf_outcomes.specs.Explored.{calls_in}
use Rattle.wf_outcome_laws.proofs.Running.{are_of_runs}
use Rattle.wf_outcome_laws.proofs.whole_laws.wholes_are_of_runs.Goals as goal

pub returns : goal.returns
returns g c =
    are_of_runs (g.O.Object.effect c.args._object.now) (calls_in c.args._scripts.now) (g.O.Object.opening c.args._object.now)
    (λ call before after other reply answer. g.met.O.Object.determined c.args._object.now call before after other reply answer)
