-- What the lines so far tell.
use Rattle.std.proofs.Common.{length, map}
use Rattle.ob_carry.specs.View.{entry_of}
use Rattle.ob_text_values_reading.proofs.VariableLines.{ReadTo}
use Rattle.ob_text_values_reading.specs.Indexed.{IsIndexed}
use Rattle.ob_text_values_reading.specs.RecordTexts.{lines_behind}
use Rattle.ob_text_values_reading.proofs.value_reading.read_behind.Given as goal

abbrev pub invariant-loop-left : goal.invariant-loop-left
invariant-loop-left l =
    record {
      read : ReadTo (lines_behind l.fn.behind) (lines_behind l.left) (map entry_of l.fields.items) l.number;
      indexed : IsIndexed l.names (map entry_of l.fields.items);
    }

abbrev pub decreases-loop-left : goal.decreases-loop-left
decreases-loop-left l = length (lines_behind l.left)
