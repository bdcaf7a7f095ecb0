-- The lines so far that are counted.
use Rattle.std.proofs.Common.{◌≡◌, count_by, length, map, take}
use Rattle.ob_fault_lines.specs.Counts.{makes_call}
use Rattle.ob_text_words.specs.Words.{lines, words}
use Rattle.ob_fault_lines.proofs.call_counts.script_calls.Given as goal

abbrev pub invariant-loop-line : goal.invariant-loop-line
invariant-loop-line l = l.count ≡ count_by makes_call (take (length l.yielded) (map words (lines l.script)))
