use Rattle.std.proofs.Common.{drop}
use Rattle.ob_carry.specs.ReadOnlyExports.{HasAll, in_flags}
use Rattle.ob_carry.proofs.spared.all_told.Given as goal

-- where those that are left are told, all are
abbrev pub invariant-loop-call : goal.invariant-loop-call
invariant-loop-call l = HasAll (in_flags l.told) (drop l.call-index l.calls) → HasAll (in_flags l.told) l.calls
