-- The lines so far that are counted.
use Rattle.std.proofs.Common.{◌≡◌, count_by, length, map, take}
use Rattle.ob_fault_lines.specs.Counts.{begins_with}
use Rattle.ob_text_words.specs.Words.{lines, words}
use Rattle.ob_fault_lines.proofs.call_counts.lines_with.Given as goal

abbrev pub invariant-loop-line : goal.invariant-loop-line
invariant-loop-line l = l.count ≡ count_by (begins_with l.letter) (take (length l.yielded) (map words (lines l.text)))
