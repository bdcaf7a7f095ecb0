-- The numbers so far.
use Rattle.std.proofs.Common.{◌≡◌, ◌-◌, map, take}
use Rattle.wf_whole_outcomes.specs.declared.nodes.Node.{Node}
use Rattle.ob_object_outcomes.proofs.wholes.numbers_from.Given as goal

abbrev pub invariant-loop-at : goal.invariant-loop-at
invariant-loop-at l = l.numbers.items ≡ map (λ (node : Node). node.place - l.first) (take l.at l.layer.keys)
