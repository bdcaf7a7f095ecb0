-- All lines so far are remarks.
use Rattle.std.proofs.Common.{◌≡◌, codes, length}
use Rattle.ob_object_draw.specs.Forms.{begin_with}
use Rattle.ob_text_values_reading.specs.Comments.{said}
use Rattle.ob_text_values_reading.specs.RecordTexts.{lines_behind}
use Rattle.ob_object_draw.proofs.record_form.has_title.Given as goal

abbrev pub invariant-loop-left : goal.invariant-loop-left
invariant-loop-left l = begin_with (codes "obl0") (said (lines_behind l.fn.behind)) ≡ begin_with (codes "obl0") (said (lines_behind l.left))

abbrev pub decreases-loop-left : goal.decreases-loop-left
decreases-loop-left l = length (lines_behind l.left)
