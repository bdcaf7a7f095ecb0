use Rattle.std.proofs.Common.{◌≡◌, ◌+◌, ◌*◌, take}
use Rattle.ob_store.specs.View.{value_in, values_in}
use Rattle.ob_store.proofs.Overwritten.{size, size_of_all}
use Rattle.ob_store.proofs.value.+overwriting.Given as goal

abbrev pub decreases-overwrite_with : goal.decreases-overwrite_with
decreases-overwrite_with l = 2 * size (value_in l.value.now)

abbrev pub decreases-parts_over : goal.decreases-parts_over
decreases-parts_over l = 2 * size_of_all (values_in l.values.now) + 1

abbrev pub decreases-overwrite_all : goal.decreases-overwrite_all
decreases-overwrite_all l = 2 * size_of_all (values_in l.values.now)

-- those before are equal
abbrev pub invariant-overwrite_all-loop-position : goal.invariant-overwrite_all-loop-position
invariant-overwrite_all-loop-position l = values_in (take l.position l.targets) ≡ values_in (take l.position l.values)
