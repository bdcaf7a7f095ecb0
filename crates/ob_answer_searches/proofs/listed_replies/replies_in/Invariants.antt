-- The replies so far.
use Rattle.std.proofs.Common.{◌≡◌, map, take}
use Rattle.wf_history.specs.View.{kept_reply}
use Rattle.wf_whole_outcomes.specs.View.{replies_of}
use Rattle.ob_answer_searches.proofs.listed_replies.replies_in.Given as goal

abbrev pub invariant-loop-number : goal.invariant-loop-number
invariant-loop-number l = map (λ reply. kept_reply reply.now) l.row.items ≡ replies_of (map kept_reply l.replies) (take l.number-index l.numbers)
