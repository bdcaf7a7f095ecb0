-- The begin stands behind what was looked at.
use Rattle.std.proofs.Common.{◌≡◌, drop, map}
use Rattle.ob_picture_chart.specs.ChartView.{sight_of}
use Rattle.ob_picture_chart.specs.Bars.{begin_of}
use Rattle.ob_picture_chart.proofs.bar.begin_of.Given as goal

abbrev pub invariant-loop-sight : goal.invariant-loop-sight
invariant-loop-sight l = begin_of l.process (map sight_of l.sights) ≡ begin_of l.process (map sight_of (drop l.sight-index l.sights))
