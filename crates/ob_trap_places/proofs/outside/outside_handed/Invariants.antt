use Rattle.std.proofs.Common.{◌≡◌, ◌≤◌, ◌++◌, map, drop}
use Rattle.std.specs.Slice.Iter.{iter_rest}
use Rattle.ob_checked.specs.View.{parameter_of, table_of}
use Rattle.ob_store.specs.View.{activation_in}
use Rattle.ob_meaning.specs.ByPositionObject as Objects
use Rattle.ob_trap_places.proofs.outside.outside_handed.Given as goal

-- what is handed over so far, and the parameters that are left with the arguments that are left
abbrev pub invariant-loop-parameter : goal.invariant-loop-parameter
invariant-loop-parameter l =
    (activation_in l.all ++ Objects.outside_handed l.results (map (parameter_of (table_of l.types)) (drop l.parameter-index l.parameters)) (iter_rest l.values)
    ≡ Objects.outside_handed 0 (map (parameter_of (table_of l.types)) l.parameters) l.arguments)
    × (l.results ≤ l.parameter-index)
