-- The line is looked for among those that are left.
use Rattle.std.proofs.Common.{◌≡◌, ◌+◌, ◌≤◌, length, map}
use Rattle.ob_text_words.specs.Words.{lines, words}
use Rattle.ob_text_values_reading.proofs.SaidLines.{seek}
use Rattle.ob_text_values_reading.specs.RecordTexts.{lines_behind}
use Rattle.ob_text_values_reading.proofs.comments.line_number.Given as goal

abbrev pub invariant-loop-left : goal.invariant-loop-left
invariant-loop-left l =
    record {
      sought : seek 1 (map words (lines l.fn.text)) l.own ≡ seek (l.number + 1) (lines_behind l.left) l.wanted;
      some : 1 ≤ l.wanted;
      counted : l.number + length (lines_behind l.left) ≡ length (map words (lines l.fn.text));
    }

abbrev pub decreases-loop-left : goal.decreases-loop-left
decreases-loop-left l = length (lines_behind l.left)
