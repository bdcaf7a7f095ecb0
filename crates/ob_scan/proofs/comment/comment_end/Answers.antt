use Rattle.std.proofs.Common.{arith, ◌+◌}
use Rattle.ob_scan.specs.Tokens.{OpensComment, ClosesComment}
use Rattle.ob_scan.proofs.Comments.{in_comment_start, in_comment_opened, in_comment_closed, in_comment_done, in_comment_passed, in_comment_end, opened_within, closed_within, left_yes, left_no}
use Rattle.ob_scan.proofs.FaultFacts.{open_comment_here}
use Rattle.ob_scan.proofs.comment.comment_end.Goals as goal

pub overflow_add-at : goal.overflow_add-at
overflow_add-at c = omega (arith, opened_within c.args.text.now c.args.start c.requires)

pub loop-at-init : goal.loop-at-init
loop-at-init c =
    let inside = opened_within c.args.text.now c.args.start c.requires in
    record {
      inside = in_comment_start c.args.text.now (c.args.start + 2);
      behind = omega arith;
      within = omega arith;
      few = omega arith;
    }

pub returns-then-depth-eq0-clause-ends : goal.returns-then-depth-eq0-clause-ends
returns-then-depth-eq0-clause-ends c =
    let text = c.args.text.now in
    let here = left_yes ClosesComment text c.loop-at.at c.closes_comment.result c.closes_comment.ensures c.if-closes_comment.true in
    in_comment_done text (c.args.start + 2) c.loop-at.at c.loop-at.depth c.loop-at.invariant.inside here (omega arith)

pub loop-at-preserved-else-depth-eq0 : goal.loop-at-preserved-else-depth-eq0
loop-at-preserved-else-depth-eq0 c =
    let text = c.args.text.now in
    let here = left_yes ClosesComment text c.loop-at.at c.closes_comment.result c.closes_comment.ensures c.if-closes_comment.true in
    let inside = closed_within text c.loop-at.at here in
    record {
      inside =
          in_comment_closed text (c.args.start + 2) c.loop-at.at c.loop-at.depth c.loop-at.invariant.inside here (omega arith);
      behind = omega arith;
      within = omega arith;
      few = omega arith;
    }

pub loop-at-preserved-then-opens_comment : goal.loop-at-preserved-then-opens_comment
loop-at-preserved-then-opens_comment c =
    let text = c.args.text.now in
    let here = left_yes OpensComment text c.loop-at.at c.opens_comment.result c.opens_comment.ensures c.if-opens_comment.true in
    let inside = opened_within text c.loop-at.at here in
    record {
      inside = in_comment_opened text (c.args.start + 2) c.loop-at.at c.loop-at.depth c.loop-at.invariant.inside here;
      behind = omega arith;
      within = omega arith;
      few = omega arith;
    }

pub loop-at-preserved : goal.loop-at-preserved
loop-at-preserved c =
    let text = c.args.text.now in
    let closes = left_no ClosesComment text c.loop-at.at c.closes_comment.result c.closes_comment.ensures c.if-closes_comment.false in
    let opens = left_no OpensComment text c.loop-at.at c.opens_comment.result c.opens_comment.ensures c.if-opens_comment.false in
    record {
      inside =
          in_comment_passed text (c.args.start + 2) c.loop-at.at c.loop-at.depth c.loop-at.invariant.inside (omega arith) opens
          closes;
      behind = omega arith;
      within = omega arith;
      few = omega arith;
    }

pub returns-clause-fault : goal.returns-clause-fault
returns-clause-fault c =
    open_comment_here c.args.text.now c.args.start c.requires
    (in_comment_end c.args.text.now (c.args.start + 2) c.loop-at.at c.loop-at.depth c.loop-at.invariant.inside (omega arith))
