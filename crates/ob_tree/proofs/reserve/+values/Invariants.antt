use Rattle.std.proofs.Common.{◌≡◌, ◌≤◌, min, max, drop}
use Rattle.ob_tree_law.specs.Reserve as Counts
use Rattle.ob_checked.specs.View.{operations_in, selectors_in, designator_of}
use Rattle.ob_tree.proofs.reserve.+values.Given as goal

-- the most so far, and those of the operations that are left
abbrev pub invariant-operators_most-loop-operation : goal.invariant-operators_most-loop-operation
invariant-operators_most-loop-operation l =
    max l.most (min (Counts.operators_most (operations_in (drop l.operation-index l.operations))) 18446744073709551615)
    ≡ min (Counts.operators_most (operations_in l.operations)) 18446744073709551615

-- the most so far, and those of the selectors that are left
abbrev pub invariant-address_most-loop-selector : goal.invariant-address_most-loop-selector
invariant-address_most-loop-selector l = record {
  most : max l.most (min (Counts.selecting_most (selectors_in (drop l.selector-index l.selector-items))) 18446744073709551615)
      ≡ min (Counts.address_most (designator_of l.designator)) 18446744073709551615;
  some : 3 ≤ l.most;
}
