-- The bands so far, and where the last one of them ends.
use Rattle.std.proofs.Common.{◌≡◌, ◌≤◌, ◌+◌, ◌*◌, ◌++◌, map, string_bytes}
use Rattle.ob_interface.specs.View.{signature_of}
use Rattle.ob_picture.specs.Shapes.{band_shapes, each, top_of}
use Rattle.ob_picture_chart.specs.ChartView.{chart_in}
use Rattle.ob_picture_chart.specs.Svg.{shapes_text}
use Rattle.ob_picture.proofs.drawing.push_bands.Given as goal

abbrev pub invariant-loop-band : goal.invariant-loop-band
invariant-loop-band l =
    record {
      text :
          string_bytes l.text
          ≡ string_bytes l.fn.text ++ shapes_text (each (band_shapes (map signature_of l.exports) l.frame (chart_in l.chart)) l.band);
      top : l.top ≡ top_of l.frame (chart_in l.chart) l.band;
      small : l.top ≤ 214 + 1000 * l.band;
    }
