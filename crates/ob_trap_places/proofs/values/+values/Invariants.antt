use Rattle.std.proofs.Common.{◌≡◌, ◌+◌, drop}
use Rattle.ob_checked.specs.View.{operations_in, selectors_in, designator_of}
use Rattle.ob_meaning.specs.ByPositionEvaluation.{by_position}
use Rattle.ob_meaning.specs.ByPositionStore.{further_in}
use Rattle.ob_store.specs.View.{store_in, place_in}
use Rattle.ob_trap_places.specs.Site.{Yields, ◌>>=◌}
use Rattle.ob_trap_places.specs.SitesOverStore as Sited
use Rattle.ob_trap_places.proofs.values.+values.Given as goal

-- what the operators that are left make of the value so far is the value of all
abbrev pub invariant-value_behind-loop-number : goal.invariant-value_behind-loop-number
invariant-value_behind-loop-number l =
    Sited.value_behind by_position (store_in l.store) (l.number + 1) l.value (operations_in (drop l.number l.operations))
    ≡ Sited.value_behind by_position (store_in l.store) 1 l.fn.first (operations_in l.operations)

-- what the selectors that are left lead to is what all lead to
abbrev pub invariant-place-loop-part : goal.invariant-place-loop-part
invariant-place-loop-part l =
    ◌>>=◌ (Sited.path_of by_position (store_in l.store) l.part (selectors_in (drop l.part l.selector-items))) (λ path. Yields (further_in (place_in l.place) path))
    ≡ Sited.place_of by_position (store_in l.store) (designator_of l.variable)
