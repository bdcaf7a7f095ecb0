use Rattle.std.proofs.Common.{◌≡◌, take}
use Rattle.ob_store.specs.View.{values_in}
use Rattle.ob_store.proofs.value.+copies.Given as goal

abbrev pub invariant-copy_all-loop-value : goal.invariant-copy_all-loop-value
invariant-copy_all-loop-value l = values_in l.copies.items ≡ values_in (take l.value-index l.values)
