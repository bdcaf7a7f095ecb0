use Rattle.std.proofs.Common.{◌≡◌, ◌++◌, map, drop}
use Rattle.ob_checked.specs.View.{variable_of, table_of}
use Rattle.ob_store.specs.View.{activation_in}
use Rattle.ob_meaning.specs.ByPositionStatements.{begun}
use Rattle.ob_mean.proofs.begun.all_begun_over.Given as goal

-- what is begun so far, and the variables that are left
abbrev pub invariant-loop-variable : goal.invariant-loop-variable
invariant-loop-variable l =
    activation_in l.all ++ begun (map (variable_of (table_of l.types)) (drop l.variable-index l.variables))
    ≡ activation_in l.initial.all ++ begun (map (variable_of (table_of l.types)) l.variables)
