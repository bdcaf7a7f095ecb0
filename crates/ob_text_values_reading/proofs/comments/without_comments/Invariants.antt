-- What the lines so far leave.
use Rattle.std.proofs.Common.{◌≡◌, ◌++◌, length, map, option_map}
use Rattle.ob_text_words.specs.Words.{lines, words}
use Rattle.ob_text_values_reading.specs.Comments.{lines_of, said}
use Rattle.ob_text_values_reading.specs.RecordTexts.{lines_behind}
use Rattle.ob_text_values_reading.proofs.comments.without_comments.Given as goal

abbrev pub invariant-loop-left : goal.invariant-loop-left
invariant-loop-left l = lines_of (option_map (λ v. v.items) l.kept) ++ said (lines_behind l.left) ≡ said (map words (lines l.fn.text))

abbrev pub decreases-loop-left : goal.decreases-loop-left
decreases-loop-left l = length (lines_behind l.left)
