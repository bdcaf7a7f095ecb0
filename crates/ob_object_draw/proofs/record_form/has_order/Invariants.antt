-- No line so far begins so.
use Rattle.std.proofs.Common.{◌≡◌, codes, length}
use Rattle.std.specs.List.{list_any}
use Rattle.ob_object_draw.specs.Forms.{begins_with}
use Rattle.ob_text_values_reading.specs.RecordTexts.{lines_behind}
use Rattle.ob_object_draw.proofs.record_form.has_order.Given as goal

abbrev pub invariant-loop-left : goal.invariant-loop-left
invariant-loop-left l = list_any (begins_with (codes "O")) (lines_behind l.fn.behind) ≡ list_any (begins_with (codes "O")) (lines_behind l.left)

abbrev pub decreases-loop-left : goal.decreases-loop-left
decreases-loop-left l = length (lines_behind l.left)
