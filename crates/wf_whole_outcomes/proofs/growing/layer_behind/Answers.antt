-- From no place until no place is left.
use Rattle.std.proofs.Common.{◌≡◌, ◌+◌, ℕ, arith, length, subst}
use Rattle.wf_whole_outcomes.specs.Graph.{rows_in}
use Rattle.wf_whole_outcomes.specs.Nodes.{IsGrown, lists_in}
use Rattle.wf_whole_outcomes.proofs.Advancing.{goes_both, grows_over}
use Rattle.wf_whole_outcomes.proofs.growing.layer_behind.Goals as goal

pub loop-from-preserved : goal.loop-from-preserved
loop-from-preserved c = record {
  grown = c.in_ok-expand.ensures.grown;
  more = goes_both (lists_in c.args.lists) (lists_in c.loop-from.growing.lists) (lists_in c.expand.new.growing.lists) c.loop-from.invariant.more c.in_ok-expand.ensures.more;
  few = let over = c.if-len-room.false in let count = c.len-in-loop-from.ensures.len in omega (arith, over, count);
}

pub returns-then-len-room-clause-most : goal.returns-then-len-room-clause-most
returns-then-len-room-clause-most c = λ _.
    let count = c.len.ensures.len in
    let over = c.if-len-room.true in
    let g = c.expand.new.growing in
    grows_over (rows_in c.args.ground.now.rows.now) c.args.ground.now.processes c.args.layer.now.keys (c.loop-from.from + 1) 0 g c.in_ok-expand.ensures.grown (lists_in c.args.lists) c.requires.nodes
    (goes_both (lists_in c.args.lists) (lists_in c.loop-from.growing.lists) (lists_in g.lists) c.loop-from.invariant.more c.in_ok-expand.ensures.more) c.args.room (omega (arith, count, over))

pub returns-clause-grown : goal.returns-clause-grown
returns-clause-grown c =
    let end = c.loop-from-test.false in
    let within = c.loop-from.auto.from-end in
    let count = c.len-from-end.ensures.len in
    let all : c.loop-from.from ≡ length c.args.layer.now.keys = omega (arith, end, within, count) in
    subst (λ (n : ℕ). IsGrown (rows_in c.args.ground.now.rows.now) c.args.ground.now.processes c.args.layer.now.keys n 0 c.loop-from.growing) all c.loop-from.invariant.grown
