-- The shapes so far.
use Rattle.std.proofs.Common.{◌≡◌, ◌++◌, map, take, string_bytes}
use Rattle.std.specs.List.{flat_map}
use Rattle.ob_picture.specs.Shapes.{mark}
use Rattle.ob_picture.specs.View.{band_in}
use Rattle.ob_picture_chart.specs.ChartView.{sight_of}
use Rattle.ob_picture_chart.specs.Svg.{shapes_text}
use Rattle.ob_picture.proofs.bands.push_marks.Given as goal

abbrev pub invariant-loop-sight : goal.invariant-loop-sight
invariant-loop-sight l =
    string_bytes l.text ≡ string_bytes l.fn.text ++ shapes_text (flat_map (mark (band_in l.band)) (map sight_of (take l.sight-index l.sights)))
