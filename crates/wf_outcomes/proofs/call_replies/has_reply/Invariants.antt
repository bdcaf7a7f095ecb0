use Rattle.std.proofs.Common.{◌≡◌, ℕ, ◌<◌, map, Some}
use Rattle.std.specs.List.{slice_get}
use Rattle.ob_interface.specs.Call.{Reply}
use Rattle.ob_interface.specs.View.{reply_of}
use Rattle.wf_outcomes.specs.Possible.{reply_in}
use Rattle.wf_outcomes.proofs.call_replies.has_reply.Given as goal

abbrev pub invariant-loop-other : goal.invariant-loop-other
invariant-loop-other l = (k : ℕ) (r : Reply) → k < l.other-index → slice_get (map reply_in l.replies) k ≡ Some r → r ≡ reply_of l.reply → ⊥
