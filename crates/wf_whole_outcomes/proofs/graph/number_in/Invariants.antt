-- None of the replies so far is this one.
use Rattle.std.proofs.Common.{◌≡◌, ℕ, ◌<◌, map, Some}
use Rattle.std.specs.List.{slice_get}
use Rattle.ob_interface.specs.View.{reply_of}
use Rattle.wf_history.specs.View.{kept_reply}
use Rattle.wf_whole_outcomes.proofs.graph.number_in.Given as goal

abbrev pub invariant-loop-number : goal.invariant-loop-number
invariant-loop-number l = (k : ℕ) → k < l.number → slice_get (map kept_reply l.replies) k ≡ Some (reply_of l.reply) → ⊥
