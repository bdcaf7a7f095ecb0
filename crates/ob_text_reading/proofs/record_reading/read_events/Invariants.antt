-- The events of the lines so far.
use Rattle.std.proofs.Common.{◌≡◌, length, map}
use Rattle.ob_interface.specs.View.{signature_of}
use Rattle.ob_text_values_reading.specs.RecordTexts.{lines_behind}
use Rattle.ob_text_reading.proofs.RecordPlaces.{ReadTo}
use Rattle.ob_text_reading.proofs.record_reading.read_events.Given as goal

abbrev pub invariant-loop-left : goal.invariant-loop-left
invariant-loop-left l =
    record {
      read : ReadTo l.initial.calls.processes (map signature_of l.exports) l.fn.head (lines_behind l.fn.behind) (lines_behind l.left) l.calls.events l.number;
      processes : l.calls.processes ≡ l.initial.calls.processes;
    }

abbrev pub decreases-loop-left : goal.decreases-loop-left
decreases-loop-left l = length (lines_behind l.left)
