-- By the run in which the calls run alone.
use Rattle.wf_outcome_laws.proofs.Alone.{are_legal_orders}
use Rattle.wf_outcomes.specs.Explored.{calls_in}
use Rattle.wf_outcome_laws.proofs.merges_laws.merges_are_legal_orders.Goals as goal

pub returns : goal.returns
returns g c = are_legal_orders (g.O.Object.effect c.args._object.now) (calls_in c.args._scripts.now) (g.O.Object.opening c.args._object.now)
