use Rattle.std.proofs.Common.{◌≡◌, true}
use Rattle.ob_carry.proofs.Sets.{ClosedBelow}
use Rattle.ob_carry.proofs.spared.is_closed.Given as goal

-- where none was taken away so far, those so far call only others of the set
abbrev pub invariant-loop-number : goal.invariant-loop-number
invariant-loop-number l = l.closed ≡ true → ClosedBelow l.number l.found l.told
