use Rattle.ob_carry.proofs.Sets.{FoundBelow}
use Rattle.ob_carry.proofs.sparing_calls.all_calls.Given as goal

-- those that were found so far
abbrev pub invariant-loop-procedure : goal.invariant-loop-procedure
invariant-loop-procedure l = FoundBelow l.procedure-index l.procedures l.found.items
