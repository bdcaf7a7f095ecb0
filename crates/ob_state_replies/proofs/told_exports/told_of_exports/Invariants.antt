use Rattle.ob_state_replies.proofs.Exported.{GoesOn}
use Rattle.ob_state_replies.proofs.told_exports.told_of_exports.Given as goal

-- what is told of the exported ones so far
abbrev pub invariant-loop-procedure : goal.invariant-loop-procedure
invariant-loop-procedure l = GoesOn l.procedures l.procedure-index l.told.items
