use Rattle.std.proofs.Common.{◌≡◌, ◌++◌, map, drop}
use Rattle.ob_checked.specs.View.{variable_of, table_of}
use Rattle.ob_store.specs.View.{variables_in}
use Rattle.ob_meaning.specs.ByPositionStatements.{begun}
use Rattle.ob_mean.proofs.begun.state_begun.Given as goal

-- what is begun so far, and the variables that are left
abbrev pub invariant-loop-variable : goal.invariant-loop-variable
invariant-loop-variable l =
    variables_in l.values.items ++ begun (map (variable_of (table_of l.types)) (drop l.variable-index l.variables))
    ≡ begun (map (variable_of (table_of l.types)) l.variables)
