-- Where things stand in a picture, in pixels from the left and from the top. The columns of a run stand in bands, one below the other.
use Rattle.std.specs.Prelude.{ℕ, ◌+◌, ◌-◌, ◌*◌, ◌/◌, ◌%◌, ◌==◌, ◌&&◌, cond, length, nat_le, nat_lt, position, unwrap_or, Bool, false, List, Option, None, Some, min, max}
use Rattle.ob_picture.specs.declared.pixels.Frame.{Frame}
use Rattle.ob_picture_chart.specs.Same.{is_same}
use Rattle.ob_picture_chart.specs.declared.svg.Point.{Point}
use Rattle.wf_history.specs.declared.event.CallId.{CallId}

abbrev pub at : ℕ → ℕ → Point
at x y = record { x = x; y = y }

-- how wide a column is: as wide as words want it, up to a limit; and a few columns are a little wider, as far as a band has room for all
unfoldable pub column_width : Frame → ℕ
column_width f = max (min f.wanted 80) (max (min (1180 / max f.columns 1) 40) 24)

-- for how many columns there is room in a band
unfoldable pub room : Frame → ℕ
room f = 1180 / column_width f

unfoldable pub bands : Frame → ℕ
bands f = (f.columns - 1) / room f + 1

-- how many columns a band has: all have equally many, but the last one
unfoldable pub most : Frame → ℕ
most f = min ((f.columns - 1) / bands f + 1) (room f)

-- the first column of a band
unfoldable pub first : Frame → ℕ → ℕ
first f band = band * most f

-- how many columns there are in a band
unfoldable pub columns_in : Frame → ℕ → ℕ
columns_in f band = min (f.columns - first f band) (most f)

-- a column stands in a band
unfoldable pub is_in : Frame → (band column : ℕ) → Bool
is_in f band column = nat_le (first f band) column && nat_lt column (first f band + columns_in f band)

-- from the left: the first column of a band; in the bands behind the first one there is room before it for the words of calls that go on
unfoldable pub lead : (band : ℕ) → ℕ
lead band = cond (band == 0) 130 230

-- from the left: a column, in its band; one behind the band stands at its end
unfoldable pub x_of : Frame → (band column : ℕ) → ℕ
x_of f band column = lead band + min (column - first f band) (columns_in f band) * column_width f

-- how far words may go on behind the end of a band
abbrev pub beyond : ℕ
beyond = 200

-- a band: its number, from 0; where it begins, from the top; the processes that have a row there, in their order; how far the words of
-- calls go on behind its end; and the call that is marked in the picture, if one is
pub record Band : Type 0 where
  pub frame : Frame
  pub number : ℕ
  pub top : ℕ
  pub rows : List ℕ
  pub spill : ℕ
  pub marked : Option CallId

-- a call is the marked one
abbrev pub is_marked : Option CallId → CallId → Bool
is_marked None id = false
is_marked (Some marked) id = is_same marked id

-- the height of a band: the numbers of its events, and so many rows
abbrev pub band_height : (rows : ℕ) → ℕ
band_height rows = 48 + 56 * rows

-- from the top: where the next band begins
unfoldable pub below : Band → ℕ
below band = band.top + band_height (length band.rows)

-- where the row of a process stands among those of a band
abbrev pub row_of : (rows : List ℕ) (process : ℕ) → ℕ
row_of rows process = unwrap_or (position (λ other. other == process) rows) 0

-- from the top: a process, in a band
unfoldable pub y_of : Band → (process : ℕ) → ℕ
y_of band process = band.top + 48 + 56 * row_of band.rows process

-- the width of a picture: behind the words that go on behind a band there is room for the name of a process
unfoldable pub width : Frame → ℕ
width f = max (lead (bands f - 1) + min f.columns (most f) * column_width f + beyond + 110) 780

-- the calls of the order, below the bands: how many stand in a line, and where
unfoldable pub in_line : Frame → ℕ
in_line f = (width f - 80) / 90

unfoldable pub cell : Frame → (below place : ℕ) → Point
cell f below place = at (70 + 90 * (place % in_line f)) (below + 20 + 18 * (place / in_line f))

-- the height of a picture, with so many calls in the order
unfoldable pub height : Frame → (below calls : ℕ) → ℕ
height f below calls = (cell f below (calls - 1)).y + 16
