use Rattle.std.proofs.Common.{◌≡◌, take}
use Rattle.ob_meaning.specs.ByPositionValue as Values
use Rattle.ob_store.specs.View.{value_in, values_in}
use Rattle.ob_store.proofs.value.overwrite_each.Given as goal

-- those before are equal to the value
abbrev pub invariant-loop-position : goal.invariant-loop-position
invariant-loop-position l = values_in (take l.position l.targets) ≡ Values.copies l.position (value_in l.value)
