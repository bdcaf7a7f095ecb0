use Rattle.std.proofs.Common.{◌≡◌, ◌++◌, drop}
use Rattle.ob_code_scheme.specs.Layout as Words
use Rattle.ob_store.specs.View.{values_in}
use Rattle.ob_layout.proofs.encoding.+writing.Given as goal

-- the words so far, and those of the values that are left
abbrev pub invariant-write_values-loop-value : goal.invariant-write_values-loop-value
invariant-write_values-loop-value l =
    l.words.items ++ Words.flat_all (values_in (drop l.value-index l.values)) ≡ l.initial.words.items ++ Words.flat_all (values_in l.values)
