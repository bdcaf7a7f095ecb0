-- From the line on that is read next, with the values that are still to be passed.
use Rattle.std.proofs.Common.{◌≡◌, suc, drop, length, map, slice_get}
use Rattle.ob_text_words.specs.Words.{lines, words}
use Rattle.ob_explained.specs.ValueLines.{lines_from, value_lines}
use Rattle.ob_explained.proofs.value_line.value_line.Given as goal

abbrev pub invariant-loop-index : goal.invariant-loop-index
invariant-loop-index l =
    slice_get (value_lines l.text) l.position ≡ slice_get (lines_from (suc (length l.yielded)) (drop (length l.yielded) (map words (lines l.text)))) l.before
