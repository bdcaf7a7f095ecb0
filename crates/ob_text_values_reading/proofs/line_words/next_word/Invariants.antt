-- The blanks so far begin no word.
use Rattle.std.proofs.Common.{◌≡◌, ◌≤◌, length}
use Rattle.ob_text_words.specs.Words.{words}
use Rattle.ob_text_values_reading.proofs.line_words.next_word.Given as goal

abbrev pub invariant-loop-first : goal.invariant-loop-first
invariant-loop-first l = record {
  said : words l.left ≡ words l.line;
  shorter : length l.left ≤ length l.line;
}

abbrev pub decreases-loop-first : goal.decreases-loop-first
decreases-loop-first l = length l.left
