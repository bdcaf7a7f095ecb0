-- The lines of the calls so far.
use Rattle.std.proofs.Common.{◌≡◌, length, map, take}
use Rattle.ob_text_words.specs.Words.{lines, words}
use Rattle.ob_explained_traps.specs.CallLines.{lines_from}
use Rattle.ob_explained_traps.proofs.call_lines.call_lines.Given as goal

abbrev pub invariant-loop-index : goal.invariant-loop-index
invariant-loop-index l = l.lines.items ≡ lines_from 1 (take (length l.yielded) (map words (lines l.script)))
