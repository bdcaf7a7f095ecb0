-- At which places of a module's text calls trap. A call stands at a position among all; one that does not trap has no place.
use Rattle.std.specs.Prelude.{◌≡◌, ℕ, ◌==◌, ◌&&◌, not, Bool, false, List, Option, Some, None, count_by, filter, length, map, option_and_then, option_map, slice_index_or, take}
use Rattle.std.specs.List.{list_any, range_with_len}
use Rattle.std.specs.Option.{option_map_or}
use Rattle.ob_grammar.specs.Tree
use Rattle.ob_trap_places.specs.Places.{place_of}
use Rattle.ob_trap_places.specs.Site.{Site}
use Rattle.ob_explained_traps.specs.declared.spots.Spot.{Spot}

-- a trap of this number, at this place
abbrev pub spot_at : (number place : ℕ) → Spot
spot_at number place = record { number = number; place = place }

-- where a call traps whose trap comes from this site
abbrev pub spot_of : Tree.Module → Option Site → Option Spot
spot_of tree site = option_and_then (λ s. option_map (spot_at s.number) (place_of tree s)) site

-- where a call traps, the operation has a place in the text
abbrev pub IsPlaced : Tree.Module → Option Site → Type 0
IsPlaced tree None = Unit {0}
IsPlaced tree (Some site) = (place : ℕ) × (place_of tree site ≡ Some place)

abbrev pub spots_of : Tree.Module → List (Option Site) → List (Option Spot)
spots_of tree sites = map (spot_of tree) sites

-- a call traps there
abbrev pub traps_at : Spot → Option Spot → Bool
traps_at spot call = option_map_or (λ other. (spot.number == other.number) && (spot.place == other.place)) call false

module _ (calls : List (Option Spot)) where
  -- where the call at a position traps
  abbrev pub place_at : ℕ → Option Spot
  place_at k = slice_index_or calls k None

  -- it traps, and none before it traps there
  abbrev pub is_first : ℕ → Bool
  is_first k = option_map_or (λ spot. not (list_any (traps_at spot) (take k calls))) (place_at k) false

  -- how many of the calls trap where it does
  abbrev pub count_at : ℕ → ℕ
  count_at k = option_map_or (λ spot. count_by (traps_at spot) calls) (place_at k) 0

  -- the positions of the calls that are the first at their place, in order
  abbrev pub firsts : List ℕ
  firsts = filter is_first (range_with_len 0 (length calls))
