use Rattle.ob_scan.specs.Tokens.{OpensComment}
use Rattle.ob_scan.proofs.Comments.{left_yes}
use Rattle.ob_scan.proofs.Reached.{skipped_none, skipped_blank, skipped_comment}
use Rattle.ob_scan.proofs.scanner.skip.Goals as goal

pub loop-at-init : goal.loop-at-init
loop-at-init c = skipped_none c.args.text.now c.args.start c.requires

pub loop-at-preserved-then-is_blank : goal.loop-at-preserved-then-is_blank
loop-at-preserved-then-is_blank c =
    skipped_blank c.args.text.now c.args.start c.loop-at.at c.loop-at.invariant c.loop-at-test.true
    (c.is_blank.ensures.0 c.if-is_blank.true)

pub loop-at-preserved : goal.loop-at-preserved
loop-at-preserved c =
    let text = c.args.text.now in
    let here = left_yes OpensComment text c.loop-at.at c.opens_comment.result c.opens_comment.ensures c.if-opens_comment.true in
    skipped_comment text c.args.start c.loop-at.at c.in_ok-at.at c.loop-at.invariant here c.in_ok-at.ensures.ends
    c.in_ok-at.ensures.within.0 c.in_ok-at.ensures.within.1
