use Rattle.std.proofs.Common.{length, ◌-◌, ◌+◌, ◌<◌, ◌≤◌}
use Rattle.ob_scan.proofs.Comments.{IsInComment}
use Rattle.ob_scan.proofs.comment.comment_end.Given as goal

abbrev pub invariant-loop-at : goal.invariant-loop-at
invariant-loop-at l = record {
  inside : IsInComment l.text (l.start + 2) l.at l.depth;
  behind : l.start < l.at;
  within : l.at ≤ length l.text;
  few : l.depth ≤ l.at;
}

abbrev pub decreases-loop-at : goal.decreases-loop-at
decreases-loop-at l = length l.text - l.at
