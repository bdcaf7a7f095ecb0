-- What was gone on from so far, from all places before this one.
use Rattle.std.proofs.Common.{◌≤◌, length}
use Rattle.wf_whole_outcomes.specs.Graph.{GoesOn, rows_in}
use Rattle.wf_whole_outcomes.specs.Nodes.{IsGrown, lists_in}
use Rattle.wf_whole_outcomes.proofs.growing.layer_behind.Given as goal

abbrev pub invariant-loop-from : goal.invariant-loop-from
invariant-loop-from l = record {
  grown : IsGrown (rows_in l.ground.rows.now) l.ground.processes l.layer.keys l.from 0 l.growing;
  more : GoesOn (lists_in l.fn.lists) (lists_in l.growing.lists);
  few : length l.growing.layer.keys ≤ l.room;
}
