-- The lines of the events so far.
use Rattle.std.proofs.Common.{◌≡◌, ◌++◌, map, take, string_bytes}
use Rattle.std.specs.List.{flat_map}
use Rattle.ob_interface.specs.View.{signature_of}
use Rattle.ob_text_record.specs.RecordText.{event_text}
use Rattle.wf_history.specs.View.{event_of}
use Rattle.ob_text_record.proofs.events.push_events.Given as goal

abbrev pub invariant-loop-event : goal.invariant-loop-event
invariant-loop-event l =
    string_bytes l.text ≡ string_bytes l.fn.text ++ flat_map (event_text (map signature_of l.exports)) (map event_of (take l.event-index l.events))
