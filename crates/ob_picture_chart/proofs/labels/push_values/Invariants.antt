-- The values so far.
use Rattle.std.proofs.Common.{◌≡◌, ◌++◌, take, string_bytes}
use Rattle.ob_picture_chart.specs.Labels.{value_words}
use Rattle.ob_picture_chart.proofs.labels.push_values.Given as goal

abbrev pub invariant-loop-value : goal.invariant-loop-value
invariant-loop-value l = string_bytes l.text ≡ string_bytes l.fn.text ++ value_words (take l.value-index l.values)
