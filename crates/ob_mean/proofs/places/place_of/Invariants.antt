use Rattle.std.proofs.Common.{◌≡◌, drop}
use Rattle.ob_typing.specs.Arithmetic.{Gives, ◌>>=◌}
use Rattle.ob_checked.specs.View.{selectors_in, designator_of}
use Rattle.ob_meaning.specs.ByPositionEvaluation as Evaluation
use Rattle.ob_meaning.specs.ByPositionStore.{further_in}
use Rattle.ob_store.specs.View.{store_in, place_in}
use Rattle.ob_mean.proofs.places.place_of.Given as goal

-- what the selectors that are left lead to is what all lead to
abbrev pub invariant-loop-selector : goal.invariant-loop-selector
invariant-loop-selector l =
    ◌>>=◌ (Evaluation.path_of (store_in l.store) (selectors_in (drop l.selector-index l.selector-items))) (λ path. Gives (further_in (place_in l.place) path))
    ≡ Evaluation.place_of (store_in l.store) (designator_of l.variable)
