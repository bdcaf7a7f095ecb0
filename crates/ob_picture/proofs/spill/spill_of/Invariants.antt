-- The farthest so far, and those from the next sight on.
use Rattle.std.proofs.Common.{◌≡◌, ◌<◌, ◌^◌, drop, map, max}
use Rattle.ob_interface.specs.View.{signature_of}
use Rattle.ob_picture.specs.Shapes.{spill}
use Rattle.ob_picture_chart.specs.ChartView.{sight_of}
use Rattle.ob_picture.proofs.spill.spill_of.Given as goal

abbrev pub invariant-loop-index : goal.invariant-loop-index
invariant-loop-index l =
    record {
      value :
          max l.most (spill (map signature_of l.exports) l.frame l.band (map sight_of (drop l.index l.sights)))
          ≡ spill (map signature_of l.exports) l.frame l.band (map sight_of l.sights);
      small : l.most < 2 ^ 77;
    }
