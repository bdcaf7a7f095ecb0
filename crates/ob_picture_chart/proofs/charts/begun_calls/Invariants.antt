-- The calls that have begun so far.
use Rattle.std.proofs.Common.{◌≡◌, map, take}
use Rattle.ob_picture_chart.specs.Charts.{begun}
use Rattle.ob_picture_chart.specs.ChartView.{moment_of}
use Rattle.ob_picture_chart.proofs.charts.begun_calls.Given as goal

abbrev pub invariant-loop-moment : goal.invariant-loop-moment
invariant-loop-moment l = l.ids.items ≡ begun (map moment_of (take l.moment-index l.moments))
