use Rattle.std.proofs.Common.{◌≡◌}
use Rattle.ob_meaning.specs.ByPositionValue as Values
use Rattle.ob_store.specs.View.{value_in, values_in}
use Rattle.ob_mean.proofs.begun.copies.Given as goal

abbrev pub invariant-loop-made : goal.invariant-loop-made
invariant-loop-made l = values_in l.all.items ≡ Values.copies l.made (value_in l.value)
