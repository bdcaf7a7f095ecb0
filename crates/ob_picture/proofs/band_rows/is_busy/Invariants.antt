-- The process has nothing of what was looked at.
use Rattle.std.proofs.Common.{◌≡◌, drop, map}
use Rattle.ob_picture.specs.Shapes.{is_busy}
use Rattle.ob_picture_chart.specs.ChartView.{sight_of}
use Rattle.ob_picture.proofs.band_rows.is_busy.Given as goal

abbrev pub invariant-loop-index : goal.invariant-loop-index
invariant-loop-index l =
    is_busy l.frame l.band l.process (map sight_of l.sights) ≡ is_busy l.frame l.band l.process (map sight_of (drop l.index l.sights))
