-- The lines so far begin with S or V.
use Rattle.std.proofs.Common.{length}
use Rattle.ob_text_values_reading.specs.RecordTexts.{lines_behind}
use Rattle.ob_text_values_reading.proofs.Tails.{TailsTo}
use Rattle.ob_text_values_reading.proofs.splitting.first_other.Given as goal

abbrev pub invariant-loop-left : goal.invariant-loop-left
invariant-loop-left l = TailsTo (lines_behind l.fn.behind) (lines_behind l.left) l.place

abbrev pub decreases-loop-left : goal.decreases-loop-left
decreases-loop-left l = length (lines_behind l.left)
