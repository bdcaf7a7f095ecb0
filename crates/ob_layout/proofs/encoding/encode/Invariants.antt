use Rattle.std.proofs.Common.{◌≡◌, ◌++◌, drop}
use Rattle.ob_code_scheme.specs.Layout as Words
use Rattle.ob_store.specs.View.{variables_in}
use Rattle.ob_layout.proofs.encoding.encode.Given as goal

-- the words so far, and those of the variables that are left
abbrev pub invariant-loop-value : goal.invariant-loop-value
invariant-loop-value l =
    l.words.items ++ Words.encoded (variables_in (drop l.value-index l.value-items)) ≡ Words.encoded (variables_in l.value-items)
