-- What the lines so far have led to.
use Rattle.std.proofs.Common.{length, map}
use Rattle.ob_checked.specs.CheckedModule.{program_in}
use Rattle.ob_text_reading.specs.HistoryContents.{heard_of}
use Rattle.ob_text_reading.proofs.Faulty.{ReadTo}
use Rattle.ob_text_values_reading.specs.RecordTexts.{lines_behind}
use Rattle.ob_text_words.specs.Words.{lines, words}
use Rattle.ob_text_reading.proofs.history_reading.read_lines.Given as goal

abbrev pub invariant-loop-left : goal.invariant-loop-left
invariant-loop-left l = ReadTo (program_in l.checked) (map words (lines l.fn.text)) (lines_behind l.left) (heard_of l.reader) l.number

abbrev pub decreases-loop-left : goal.decreases-loop-left
decreases-loop-left l = length (lines_behind l.left)
