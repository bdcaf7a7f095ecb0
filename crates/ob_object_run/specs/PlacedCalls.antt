-- The calls of a list with their places.
use Rattle.std.specs.Prelude.{ℕ, List, map, Option, None, Some}
use Rattle.wf_history.specs.declared.event.CallId.{CallId}
use Rattle.ob_object_run.specs.declared.event_places.Placed.{Placed}
use Rattle.ob_object_run.specs.declared.event_places.Places.{Places}
use Rattle.ob_object_run.specs.Noted.{noted_in}

-- the place, or 0 where there is none
abbrev pub place_in : Option ℕ → ℕ
place_in None = 0
place_in (Some place) = place

-- a call with its places
abbrev pub placed_at : Places → CallId → Placed
placed_at places id = record { id = id; begin = place_in (noted_in places.begins id); end = noted_in places.ends id }

abbrev pub placed_all : Places → List CallId → List Placed
placed_all places order = map (placed_at places) order
