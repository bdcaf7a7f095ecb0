-- One number more.
use Rattle.std.proofs.Common.{◌-◌}
use Rattle.wf_whole_outcomes.specs.declared.nodes.Node.{Node}
use Rattle.ob_object_outcomes.proofs.WholeStates.{mapped_more}
use Rattle.ob_object_outcomes.proofs.wholes.numbers_from.Goals as goal

pub loop-at-preserved : goal.loop-at-preserved
loop-at-preserved c =
    mapped_more (λ (node : Node). node.place - c.args.first) c.loop-at.numbers.items c.args.layer.now.keys c.loop-at.at c.index-node.result.now c.index-node.ensures c.loop-at.invariant
    c.saturating_sub-number.result c.saturating_sub-number.ensures c.push.new.self.items c.in_ok-push.ensures.items
