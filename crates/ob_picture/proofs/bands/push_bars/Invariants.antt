-- The bars so far, and those from the next sight on.
use Rattle.std.proofs.Common.{◌≡◌, ◌++◌, drop, map, string_bytes}
use Rattle.ob_interface.specs.View.{signature_of}
use Rattle.ob_picture.specs.Shapes.{bars}
use Rattle.ob_picture.specs.View.{band_in}
use Rattle.ob_picture_chart.specs.ChartView.{sight_of}
use Rattle.ob_picture_chart.specs.Svg.{shapes_text}
use Rattle.ob_picture.proofs.bands.push_bars.Given as goal

abbrev pub invariant-loop-index : goal.invariant-loop-index
invariant-loop-index l =
    string_bytes l.text ++ shapes_text (bars (map signature_of l.exports) (band_in l.band) (map sight_of (drop l.index l.sights)))
    ≡ string_bytes l.fn.text ++ shapes_text (bars (map signature_of l.exports) (band_in l.band) (map sight_of l.sights))
