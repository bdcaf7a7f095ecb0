-- Nothing is said.
use Rattle.std.proofs.Common.{refl}
use Rattle.wf_whole_outcomes.specs.Graph.{rows_in}
use Rattle.wf_whole_outcomes.proofs.Fronting.{front_first}
use Rattle.wf_whole_outcomes.proofs.layers.begin.Goals as goal

pub returns-clause-front : goal.returns-clause-front
returns-clause-front c = front_first (rows_in c.args.ground.now.rows.now) c.args.ground.now.processes _ c.in_ok-lists.ensures.lists c.in_ok-lists.ensures.links c.in_ok-layer.ensures c.new-trail.ensures.items refl
