-- The moments so far, and those from the next event on.
use Rattle.std.proofs.Common.{◌≡◌, ◌++◌, drop, map}
use Rattle.ob_picture_chart.specs.Moments.{seen_from}
use Rattle.ob_picture_chart.specs.ChartView.{moment_of}
use Rattle.wf_history.specs.View.{event_of}
use Rattle.ob_picture_chart.proofs.moments.seen_moments.Given as goal

abbrev pub invariant-loop-number : goal.invariant-loop-number
invariant-loop-number l =
    map moment_of l.moments.items ++ seen_from l.makers l.number (map event_of (drop l.number l.events))
    ≡ seen_from l.makers 0 (map event_of l.events)
