-- The moments so far, and those from the next event on.
use Rattle.std.proofs.Common.{◌≡◌, ◌≤◌, ◌++◌, drop, length, map}
use Rattle.ob_picture_chart.specs.Moments.{placed_from}
use Rattle.ob_picture_chart.specs.ChartView.{moment_of}
use Rattle.wf_history.specs.View.{event_of}
use Rattle.ob_picture_chart.proofs.moments.placed_moments.Given as goal

abbrev pub invariant-loop-event : goal.invariant-loop-event
invariant-loop-event l =
    record {
      moments :
          map moment_of l.moments.items ++ placed_from l.known.ids.now l.made (map event_of (drop l.event-index l.events))
          ≡ placed_from l.known.ids.now 0 (map event_of l.events);
      made : l.made ≤ length l.known.ids.now;
    }
