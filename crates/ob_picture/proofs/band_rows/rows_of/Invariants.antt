-- The processes so far.
use Rattle.std.proofs.Common.{◌≡◌, ◌≤◌, length, map}
use Rattle.ob_picture.specs.Shapes.{rows}
use Rattle.ob_picture_chart.specs.ChartView.{sight_of}
use Rattle.ob_picture.proofs.band_rows.rows_of.Given as goal

abbrev pub invariant-loop-process : goal.invariant-loop-process
invariant-loop-process l =
    record {
      rows : l.busy.items ≡ rows l.frame l.band (map sight_of l.sights) l.process;
      few : length l.busy.items ≤ l.process;
    }
