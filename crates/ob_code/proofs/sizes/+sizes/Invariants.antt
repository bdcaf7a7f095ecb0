use Rattle.std.proofs.Common.{◌≡◌, ◌+◌, min, max, drop}
use Rattle.ob_code_scheme.specs.Scheme as Scheme
use Rattle.ob_checked.specs.View.{operations_in, selectors_in, designator_of}
use Rattle.ob_code.specs.Scoped.{own_in}
use Rattle.ob_code.proofs.sizes.+sizes.Given as goal

-- the sum so far, and those of the operations that are left
abbrev pub invariant-operations_size-loop-operation : goal.invariant-operations_size-loop-operation
invariant-operations_size-loop-operation l =
    max l.sum (min (l.sum + Scheme.operations_size (own_in l.scopes) (operations_in (drop l.operation-index l.operations))) 18446744073709551615)
    ≡ min (Scheme.operations_size (own_in l.scopes) (operations_in l.operations)) 18446744073709551615

-- the sum so far, and those of the selectors that are left
abbrev pub invariant-designator_size-loop-selector : goal.invariant-designator_size-loop-selector
invariant-designator_size-loop-selector l =
    max l.sum (min (l.sum + Scheme.selectors_size (own_in l.scopes) (selectors_in (drop l.selector-index l.selector-items))) 18446744073709551615)
    ≡ min (Scheme.designator_size (own_in l.scopes) (designator_of l.designator)) 18446744073709551615
