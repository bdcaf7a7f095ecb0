use Rattle.std.proofs.Common.{◌≡◌, drop}
use Rattle.ob_meaning.specs.ByPositionValue as Values
use Rattle.ob_store.specs.View.{value_in}
use Rattle.ob_store.proofs.value.Value.selected.Given as goal

-- what the positions that are left lead to is what all of them lead to
abbrev pub invariant-loop-position : goal.invariant-loop-position
invariant-loop-position l =
    Values.selected (value_in l.value) (drop l.position-index l.path) ≡ Values.selected (value_in l.initial.value) l.path
