-- The states so far.
use Rattle.std.proofs.Common.{◌≡◌, map, take, Some}
use Rattle.wf_outcomes.specs.Explored.{all_kept, state_at}
use Rattle.wf_whole_outcomes.specs.View.{seen_in}
use Rattle.wf_whole_outcomes.specs.declared.nodes.Node.{Node}
use Rattle.wf_whole_outcomes.proofs.leaves.states_told.Given as goal

abbrev pub invariant-loop-at : goal.invariant-loop-at
invariant-loop-at g l =
    map Some (map (seen_in g.O.Object.meaning) l.states.items)
    ≡ map (λ (node : Node). state_at (all_kept g.O.Object.meaning l.explored.seen) node.place) (take l.at l.front.layer.keys)
