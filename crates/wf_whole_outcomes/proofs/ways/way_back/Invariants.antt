-- The way to the node is the way to where the search back stands, and what was gone back.
use Rattle.std.proofs.Common.{◌≡◌, ◌++◌, ◌≤◌, ◌∷◌, [], length, get_or, reverse, take}
use Rattle.wf_whole_outcomes.specs.Layers.{ways_of}
use Rattle.wf_whole_outcomes.specs.Nodes.{trail_in}
use Rattle.wf_whole_outcomes.proofs.ways.way_back.Given as goal

abbrev pub invariant-loop-depth : goal.invariant-loop-depth
invariant-loop-depth l = record {
  deep : l.depth ≤ length l.trail;
  back : get_or (ways_of ([] ∷ []) (trail_in l.trail)) l.initial.at [] ≡ get_or (ways_of ([] ∷ []) (take l.depth (trail_in l.trail))) l.at [] ++ reverse l.way.items;
}

abbrev pub decreases-loop-depth : goal.decreases-loop-depth
decreases-loop-depth l = l.depth
