-- None of the nodes so far stands before.
use Rattle.std.proofs.Common.{◌≤◌, ◌<◌, ℕ, get_or}
use Rattle.wf_whole_outcomes.specs.declared.nodes.Node.{Node}
use Rattle.ob_object_outcomes.proofs.wholes.first_place.Given as goal

abbrev pub invariant-loop-at : goal.invariant-loop-at
invariant-loop-at l = (k : ℕ) (d : Node) → k < l.at → l.first ≤ (get_or l.layer.keys k d).place
