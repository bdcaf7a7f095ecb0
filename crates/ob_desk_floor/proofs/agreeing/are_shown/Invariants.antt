-- The rest is what the events to come show just where all answers are what all events show.
use Rattle.std.proofs.Common.{◌≡◌, drop, map}
use Rattle.wf_history.specs.History.{own_answers}
use Rattle.wf_history.specs.View.{event_of}
use Rattle.ob_desk_floor.specs.Seat.{answered_call}
use Rattle.ob_desk_floor.proofs.agreeing.are_shown.Given as goal

abbrev pub invariant-loop-event : goal.invariant-loop-event
invariant-loop-event l =
    record {
      onward : map answered_call l.answers ≡ own_answers l.process (map event_of l.events) → map answered_call l.rest ≡ own_answers l.process (map event_of (drop l.event-index l.events));
      back : map answered_call l.rest ≡ own_answers l.process (map event_of (drop l.event-index l.events)) → map answered_call l.answers ≡ own_answers l.process (map event_of l.events);
    }
