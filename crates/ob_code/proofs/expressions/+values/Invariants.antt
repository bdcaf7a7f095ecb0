use Rattle.std.proofs.Common.{◌≡◌, ◌+◌, [], ◌∷◌, drop}
use Rattle.ob_checked.specs.View.{expression_of, operations_in, selectors_in, designator_of}
use Rattle.ob_code.specs.Scoped.{globals_in, own_in, type_in}
use Rattle.ob_code.proofs.Values.{with_operations, with_selectors, with_designator}
use Rattle.ob_code.proofs.Weights.{weight, weight_of_operations, weight_of_designator, weight_of_selectors}
use Rattle.ob_code.proofs.expressions.+values.Given as goal

abbrev pub decreases-put_expression : goal.decreases-put_expression
decreases-put_expression l = weight (expression_of l.expression.now)

abbrev pub decreases-put_operations : goal.decreases-put_operations
decreases-put_operations l = weight_of_operations (operations_in l.operations.now)

abbrev pub decreases-put_operation : goal.decreases-put_operation
decreases-put_operation l = weight (expression_of l.operation.now.operand) + 1

abbrev pub decreases-put_selector : goal.decreases-put_selector
decreases-put_selector l = weight_of_selectors (selectors_in (l.selector.now ∷ []))

abbrev pub decreases-put_designator : goal.decreases-put_designator
decreases-put_designator l = weight_of_designator (designator_of l.designator.now) + 1

-- the code so far with that of the operations that are left
abbrev pub invariant-put_operations-loop-operation : goal.invariant-put_operations-loop-operation
invariant-put_operations-loop-operation l =
    with_operations (globals_in l.scopes) (own_in l.scopes) l.code (drop l.operation-index l.operations)
    ≡ with_operations (globals_in l.scopes) (own_in l.scopes) l.initial.code l.operations

-- the code so far with that of the selectors that are left
abbrev pub invariant-put_designator-loop-selector : goal.invariant-put_designator-loop-selector
invariant-put_designator-loop-selector l =
    with_selectors (globals_in l.scopes) (own_in l.scopes) l.code (type_in l.scopes l.data_type) (drop l.selector-index l.selector-items)
    ≡ with_designator (globals_in l.scopes) (own_in l.scopes) l.fn.code l.designator
