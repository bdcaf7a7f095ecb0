use Rattle.std.proofs.Common.{◌≡◌, drop}
use Rattle.ob_checked.specs.View.{operations_in, selectors_in, designator_of}
use Rattle.ob_meaning.specs.ByPositionEvaluation.{value_behind}
use Rattle.ob_store.specs.View.{store_in, value_or_zero}
use Rattle.ob_mean.specs.Evaluating.{read_of, read_behind}
use Rattle.ob_mean.proofs.expressions.+evaluation.Given as goal

-- what the operators that are left make of the value so far is the value of all
abbrev pub invariant-evaluate_behind-loop-operation : goal.invariant-evaluate_behind-loop-operation
invariant-evaluate_behind-loop-operation l =
    value_behind (store_in l.store) l.value (operations_in (drop l.operation-index l.operations))
    ≡ value_behind (store_in l.store) l.initial.value (operations_in l.operations)

-- what the selectors that are left lead to is what all lead to
abbrev pub invariant-read-loop-selector : goal.invariant-read-loop-selector
invariant-read-loop-selector l =
    read_behind (store_in l.store) (value_or_zero l.value) (selectors_in (drop l.selector-index l.selector-items))
    ≡ read_of (store_in l.store) (designator_of l.variable)
