-- The widest so far, and those from the next sight on.
use Rattle.std.proofs.Common.{◌≡◌, drop, map, max}
use Rattle.ob_interface.specs.View.{signature_of}
use Rattle.ob_picture_chart.specs.ChartView.{sight_of}
use Rattle.ob_picture_chart.specs.Widths.{wanted}
use Rattle.ob_picture_chart.proofs.widths.wanted.Given as goal

abbrev pub invariant-loop-index : goal.invariant-loop-index
invariant-loop-index l =
    max l.widest (wanted (map signature_of l.exports) l.columns (map sight_of (drop l.index l.sights)))
    ≡ wanted (map signature_of l.exports) l.columns (map sight_of l.sights)
