-- How many stand before the line so far, with those that are left.
use Rattle.std.proofs.Common.{◌≡◌, ◌+◌, ◌≤◌, length, map, take}
use Rattle.ob_text_words.specs.Words.{lines, words}
use Rattle.ob_text_values_reading.specs.Comments.{said, said_number}
use Rattle.ob_text_values_reading.specs.RecordTexts.{lines_behind}
use Rattle.ob_text_values_reading.proofs.comments.said_number.Given as goal

abbrev pub invariant-loop-left : goal.invariant-loop-left
invariant-loop-left l =
    record {
      counted : said_number (map words (lines l.fn.text)) l.number ≡ l.said + length (said (take l.before (lines_behind l.left)));
      few : l.said + length (lines_behind l.left) ≤ length (map words (lines l.fn.text)) + 1;
    }

abbrev pub decreases-loop-left : goal.decreases-loop-left
decreases-loop-left l = length (lines_behind l.left)
