-- One more of a number of shapes.
use Rattle.std.proofs.Common.{◌≡◌, ℕ, ◌+◌, List, ◌++◌, add-one, refl}
use Rattle.ob_picture.specs.Shapes.{each}
use Rattle.ob_picture_chart.specs.Svg.{Shape}

pub each_more : (f : ℕ → List Shape) (n : ℕ) → each f (n + 1) ≡ each f n ++ f n
each_more f n = rw add-one refl
