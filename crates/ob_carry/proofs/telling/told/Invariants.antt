use Rattle.std.proofs.Common.{take}
use Rattle.ob_checked.specs.View.{table_of}
use Rattle.ob_carry.proofs.Told.{AllToldOf}
use Rattle.ob_carry.proofs.telling.told.Given as goal

-- the variables so far are told
abbrev pub invariant-loop-position : goal.invariant-loop-position
invariant-loop-position l = AllToldOf (table_of l.types) (take l.position l.variables) l.entries.items (take l.position l.values)
