-- The end stands behind what was looked at.
use Rattle.std.proofs.Common.{◌≡◌, drop, map}
use Rattle.ob_picture_chart.specs.ChartView.{sight_of}
use Rattle.ob_picture_chart.specs.Bars.{end_of}
use Rattle.ob_picture_chart.proofs.bar.end_of.Given as goal

abbrev pub invariant-loop-sight : goal.invariant-loop-sight
invariant-loop-sight l = end_of l.id (map sight_of l.sights) ≡ end_of l.id (map sight_of (drop l.sight-index l.sights))
