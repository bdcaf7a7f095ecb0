-- Items in the order of their places.
use Rattle.std.specs.Prelude.{◌≡◌, ℕ, ◌<◌, nat_lt, List, [], ◌∷◌, get_or, slice_get, Some, if◌then◌else◌}

-- items whose places rise
module _ {A : Type 0} (place_of : A → ℕ) where
  abbrev pub Rises : List A → Type 0
  Rises items = (j k : ℕ) (a b : A) → j < k → slice_get items j ≡ Some a → slice_get items k ≡ Some b → place_of a < place_of b

  abbrev pub EachRises : List (List A) → Type 0
  EachRises rows = (process : ℕ) → Rises (get_or rows process [])

  -- those that lie before a place
  abbrev pub up_to : ℕ → List A → List A
  up_to place [] = []
  up_to place (a ∷ items) = if nat_lt (place_of a) place then a ∷ up_to place items else []
