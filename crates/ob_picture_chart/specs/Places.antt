-- Where calls stand in an order, as the program keeps it.
use Rattle.std.specs.Prelude.{ℕ, ◌-◌, List, Option, None, Some, cond, get_or, nat_lt, slice_get}
use Rattle.std.specs.HashMap as hash
use Rattle.ob_picture_chart.specs.Same.{is_same}
use Rattle.ob_picture_chart.specs.declared.order_places.Noted.{Noted}
use Rattle.ob_picture_chart.specs.declared.row.Row.{Row}
use Rattle.wf_history.specs.declared.event.CallId.{CallId}

-- of places that stand from a number on the one at a number; 0 where there is none
abbrev pub place_from : (first : ℕ) → List ℕ → ℕ → ℕ
place_from first places number = cond (nat_lt number first) 0 (get_or places (number - first) 0)

abbrev pub in_row : Row → ℕ → ℕ
in_row row number = place_from row.first row.places.items number

-- the same in a row that there may be
abbrev pub at_row : Option Row → ℕ → ℕ
at_row None number = 0
at_row (Some row) number = in_row row number

-- the place of a call in the row of its process
abbrev pub in_rows : List Row → CallId → ℕ
in_rows rows id = at_row (slice_get rows id.process) id.number

-- what was looked up, or else the other place
abbrev pub place_or : Option ℕ → ℕ → ℕ
place_or None other = other
place_or (Some place) other = place

-- the place of a call that is looked up by its hash, or else stands in its row
abbrev pub noted_in : Noted → CallId → ℕ
noted_in noted id = place_or (hash.get is_same noted.others id) (in_rows noted.rows.items id)
