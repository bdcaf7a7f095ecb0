-- The front behind the steps so far.
use Rattle.std.proofs.Common.{◌-◌, ◌≤◌, length}
use Rattle.wf_whole_outcomes.specs.Graph.{rows_in}
use Rattle.wf_whole_outcomes.specs.Nodes.{IsFront}
use Rattle.wf_whole_outcomes.proofs.layers.search_all.Given as goal

abbrev pub invariant-loop-front : goal.invariant-loop-front
invariant-loop-front l = record {
  front : IsFront (rows_in l.ground.rows.now) l.ground.processes l.front;
  within : length l.front.trail.items ≤ l.steps;
  few : l.front.many ≤ l.most;
}

abbrev pub decreases-loop-front : goal.decreases-loop-front
decreases-loop-front l = l.steps - length l.front.trail.items
