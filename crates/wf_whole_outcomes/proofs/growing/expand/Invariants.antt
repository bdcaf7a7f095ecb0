-- What was gone on from so far, with all steps before this one.
use Rattle.wf_whole_outcomes.specs.Graph.{GoesOn, rows_in}
use Rattle.wf_whole_outcomes.specs.Nodes.{IsGrown, lists_in}
use Rattle.wf_whole_outcomes.proofs.growing.expand.Given as goal

abbrev pub invariant-loop-by : goal.invariant-loop-by
invariant-loop-by l = record {
  grown : IsGrown (rows_in l.ground.rows.now) l.ground.processes l.layer.keys l.from l.by l.growing;
  more : GoesOn (lists_in l.initial.growing.lists) (lists_in l.growing.lists);
}
