use Rattle.ob_carry.specs.ReadOnlyExports.{AllKeep}
use Rattle.ob_carry.proofs.Exported.{ToldBelow}
use Rattle.ob_carry.proofs.silent_exports.told_of_exports.Given as goal

-- what is told of the exported ones so far
abbrev pub invariant-loop-number : goal.invariant-loop-number
invariant-loop-number l = AllKeep l.procedures l.spared → ToldBelow l.spared l.procedures l.number l.told.items
