-- The rows so far.
use Rattle.std.proofs.Common.{◌≡◌, ◌++◌, take, string_bytes}
use Rattle.std.specs.List.{flat_map}
use Rattle.ob_picture.specs.Shapes.{row}
use Rattle.ob_picture.specs.View.{band_in}
use Rattle.ob_picture_chart.specs.Svg.{shapes_text}
use Rattle.ob_picture.proofs.bands.push_rows.Given as goal

abbrev pub invariant-loop-process : goal.invariant-loop-process
invariant-loop-process l =
    string_bytes l.text ≡ string_bytes l.fn.text ++ shapes_text (flat_map (row (band_in l.band)) (take l.process-index l.band.rows.now))
