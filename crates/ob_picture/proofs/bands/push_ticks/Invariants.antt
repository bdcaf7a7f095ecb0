-- The numbers so far.
use Rattle.std.proofs.Common.{◌≡◌, ◌∷◌, ◌++◌, ◌+◌, codes, string_bytes}
use Rattle.ob_picture.specs.Places.{at}
use Rattle.ob_picture.specs.Shapes.{each, tick}
use Rattle.ob_picture.specs.View.{band_in}
use Rattle.ob_picture_chart.specs.Svg.{Words, shapes_text}
use Rattle.ob_picture.proofs.bands.push_ticks.Given as goal

abbrev pub invariant-loop-index : goal.invariant-loop-index
invariant-loop-index l =
    string_bytes l.text
    ≡ string_bytes l.fn.text ++ shapes_text (Words (codes "faint") (at 12 (l.band.top + 14)) (codes "event") ∷ each (tick l.times (band_in l.band)) l.index)
