use Rattle.std.proofs.Common.{◌≡◌, min, max, drop}
use Rattle.ob_code_scheme.specs.Temporaries as Counts
use Rattle.ob_checked.specs.View.{operations_in, selectors_in, designator_of}
use Rattle.ob_layout.proofs.temporaries.+temporaries.Given as goal

-- the most so far, and those of the operations that are left
abbrev pub invariant-operations_temporaries-loop-operation : goal.invariant-operations_temporaries-loop-operation
invariant-operations_temporaries-loop-operation l =
    max l.most (min (Counts.operations_temporaries (operations_in (drop l.operation-index l.operations))) 18446744073709551615)
    ≡ min (Counts.operations_temporaries (operations_in l.operations)) 18446744073709551615

-- the most so far, and those of the selectors that are left
abbrev pub invariant-designator_temporaries-loop-selector : goal.invariant-designator_temporaries-loop-selector
invariant-designator_temporaries-loop-selector l =
    max l.most (min (Counts.selectors_temporaries (selectors_in (drop l.selector-index l.selector-items))) 18446744073709551615)
    ≡ min (Counts.designator_temporaries (designator_of l.designator)) 18446744073709551615
