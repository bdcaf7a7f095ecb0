-- What has been seen so far with the times of the columns, and what is to be seen from the next moment, its column and its time on.
use Rattle.std.proofs.Common.{◌≡◌, ◌≤◌, ◌+◌, ◌++◌, drop, length, map}
use Rattle.ob_picture_chart.specs.Charts.{sights_from, times_from}
use Rattle.ob_picture_chart.specs.ChartView.{moment_of, sight_of}
use Rattle.ob_picture_chart.proofs.charts.sights_of.Given as goal

abbrev pub invariant-loop-moment : goal.invariant-loop-moment
invariant-loop-moment l =
    record {
      sights :
          map sight_of l.sights.items ++ sights_from l.order.ids.now l.chosen.ids.now (length l.times.items) (map moment_of (drop l.moment-index l.moments))
          ≡ sights_from l.order.ids.now l.chosen.ids.now 0 (map moment_of l.moments);
      times :
          l.times.items ++ times_from l.order.ids.now l.chosen.ids.now (length l.times.items) l.time (map moment_of (drop l.moment-index l.moments))
          ≡ times_from l.order.ids.now l.chosen.ids.now 0 1 (map moment_of l.moments);
      early : l.time ≤ l.moment-index + 1;
    }
