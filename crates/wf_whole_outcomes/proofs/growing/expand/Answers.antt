-- All processes are tried.
use Rattle.std.proofs.Common.{arith}
use Rattle.wf_whole_outcomes.specs.Graph.{rows_in}
use Rattle.wf_whole_outcomes.specs.Nodes.{lists_in}
use Rattle.wf_whole_outcomes.proofs.Advancing.{all_tried, goes_both, goes_nowhere}
use Rattle.wf_whole_outcomes.proofs.growing.expand.Goals as goal

pub loop-by-init : goal.loop-by-init
loop-by-init c = record { grown = c.requires.grown; more = goes_nowhere (lists_in c.args.growing.now.lists) }

pub loop-by-preserved : goal.loop-by-preserved
loop-by-preserved c = record {
  grown = c.in_ok-advance.ensures.grown;
  more = goes_both (lists_in c.args.growing.now.lists) (lists_in c.loop-by.growing.lists) (lists_in c.advance.new.growing.lists) c.loop-by.invariant.more c.in_ok-advance.ensures.more;
}

pub returns-clause-grown : goal.returns-clause-grown
returns-clause-grown c =
    let end = c.loop-by-test.false in
    let within = c.loop-by.auto.by-end in
    all_tried (rows_in c.args.ground.now.rows.now) c.args.ground.now.processes c.args.layer.now.keys c.args.from c.loop-by.by c.loop-by.growing c.loop-by.invariant.grown c.requires.narrow (omega (arith, end, within))
