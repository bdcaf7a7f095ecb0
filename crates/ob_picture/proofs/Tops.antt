-- The next band begins where this one ends.
use Rattle.std.proofs.Common.{◌≡◌, ℕ, ◌+◌, length, add-one, refl}
use Rattle.ob_picture.specs.Places.{band_height}
use Rattle.ob_picture.specs.Shapes.{rows, top_of}
use Rattle.ob_picture.specs.declared.pixels.Frame.{Frame}
use Rattle.ob_picture_chart.specs.Charts.{Chart}

pub top_more : (f : Frame) (c : Chart) (n : ℕ) → top_of f c (n + 1) ≡ top_of f c n + band_height (length (rows f n c.sights c.processes))
top_more f c n = rw add-one refl
