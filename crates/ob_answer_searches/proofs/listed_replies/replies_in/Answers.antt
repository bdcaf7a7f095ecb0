-- One reply more, or none.
use Rattle.std.proofs.Common.{map}
use Rattle.std.specs.List.{slice_get}
use Rattle.ob_answer_searches.proofs.Made.{one_kept}
use Rattle.wf_history.specs.View.{kept_reply}
use Rattle.ob_answer_searches.proofs.listed_replies.replies_in.Goals as goal

pub loop-number-preserved : goal.loop-number-preserved
loop-number-preserved c =
    one_kept (slice_get (map kept_reply c.args.replies.now)) c.args.numbers.now c.loop-number.number-index 0 c.loop-number-test.true _ _ c.loop-number.invariant c.in_ok-push_known.ensures
