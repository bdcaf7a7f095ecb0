use Rattle.std.proofs.Common.{refl}
use Rattle.ob_code_scheme.specs.Scheme as Scheme
use Rattle.ob_checked.specs.View.{operations_in, selectors_in}
use Rattle.ob_code.specs.Scoped.{own_in}
use Rattle.ob_code.proofs.Sums.{sum_ends, value_sized, chain_sized}
use Rattle.ob_code.proofs.sizes.+sizes.Goals as goal

pub operations_size-returns : goal.operations_size-returns
operations_size-returns t c =
    sum_ends (λ xs. Scheme.operations_size (own_in c.args.scopes.now) (operations_in xs)) c.args.operations.now c.loop-operation.operation-index c.loop-operation.sum _ refl c.loop-operation-test.false c.loop-operation.invariant

pub designator_size-returns : goal.designator_size-returns
designator_size-returns t c =
    sum_ends (λ xs. Scheme.selectors_size (own_in c.args.scopes.now) (selectors_in xs)) c.deref-selector-items.result.now c.loop-selector.selector-index c.loop-selector.sum _ refl c.loop-selector-test.false c.loop-selector.invariant

pub size-returns-in-ValueOf : goal.size-returns-in-ValueOf
size-returns-in-ValueOf t c =
    value_sized (own_in c.args.scopes.now) c.args.expression.now _ c.in-ValueOf.variable c.saturating_add.result c.designator_size.result c.in-ValueOf.is c.designator_size.ensures c.saturating_add.ensures

pub size-returns-in-Computed : goal.size-returns-in-Computed
size-returns-in-Computed t c =
    chain_sized (own_in c.args.scopes.now) c.args.expression.now c.deref-in-Computed.result.now c.in-Computed.first c.in-Computed.rest c.as_slice.result.now c.saturating_add-in-Computed.result c.size-before.result c.operations_size.result
    c.in-Computed.is c.deref-in-Computed.ensures c.as_slice.ensures.value c.size-before.ensures c.operations_size.ensures c.saturating_add-in-Computed.ensures
