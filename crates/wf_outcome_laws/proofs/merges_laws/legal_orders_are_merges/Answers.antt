-- By the law that is its contract.
use Rattle.wf_outcome_laws.proofs.Merging.{are_merges}
use Rattle.wf_outcomes.specs.Explored.{calls_in}
use Rattle.wf_outcome_laws.proofs.merges_laws.legal_orders_are_merges.Goals as goal

pub returns : goal.returns
returns g c = are_merges (g.O.Object.effect c.args._object.now) (calls_in c.args._scripts.now) (g.O.Object.opening c.args._object.now)
