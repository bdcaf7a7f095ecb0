use Rattle.std.proofs.Common.{◌≡◌, ◌++◌, map, drop}
use Rattle.ob_checked.specs.View.{parameter_of, table_of}
use Rattle.ob_store.specs.View.{activation_in}
use Rattle.ob_meaning.specs.ByPositionObject as Objects
use Rattle.ob_trap_places.proofs.outside.results_begun.Given as goal

-- the results so far, and those of the parameters that are left
abbrev pub invariant-loop-parameter : goal.invariant-loop-parameter
invariant-loop-parameter l =
    activation_in l.all ++ Objects.results_begun (map (parameter_of (table_of l.types)) (drop l.parameter-index l.parameters))
    ≡ Objects.results_begun (map (parameter_of (table_of l.types)) l.parameters)
