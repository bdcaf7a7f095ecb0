-- What the program's values of this crate stand for, without pointers.
use Rattle.std.specs.Prelude.{List, map}
use Rattle.ob_interface.specs.View.{signature_of}
use Rattle.ob_interface.specs.declared.export.Export.{Export}
use Rattle.ob_picture.specs.Places as Places
use Rattle.ob_picture.specs.Shapes.{bar_at}
use Rattle.ob_picture.specs.declared.pixels.Band.{Band}
use Rattle.ob_picture_chart.specs.ChartView.{sight_of}
use Rattle.ob_picture_chart.specs.declared.charts.Sight.{Sight}
use Rattle.ob_picture_chart.specs.Svg.{Shape}

abbrev pub band_in : Band → Places.Band
band_in b = record { frame = b.frame; number = b.number; top = b.top; rows = b.rows.now; spill = b.spill; marked = b.marked }

-- the bar of a call in a band, where it begins, by what is seen behind
abbrev pub bar_begun : List Export → Band → Sight → (behind : List Sight) → List Shape
bar_begun exports band sight behind =
    bar_at (map signature_of exports) (band_in band) (sight_of sight) (sight_of sight).happening (map sight_of behind)
