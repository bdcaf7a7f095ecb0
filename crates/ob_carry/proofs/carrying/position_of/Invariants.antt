use Rattle.std.proofs.Common.{◌≡◌, drop, map}
use Rattle.ob_checked.specs.View.{table_of, variable_of}
use Rattle.ob_carry.specs.Carried.{position_from}
use Rattle.ob_carry.proofs.carrying.position_of.Given as goal

-- the variable is none of those so far
abbrev pub invariant-loop-position : goal.invariant-loop-position
invariant-loop-position l =
    position_from l.position (map (variable_of (table_of l.types)) (drop l.position l.variables)) l.name
    ≡ position_from 0 (map (variable_of (table_of l.types)) l.variables) l.name
