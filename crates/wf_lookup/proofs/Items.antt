-- Items of lists that were read.
use Rattle.std.proofs.Common.{◌≡◌, sym, ap, ◌∙◌, ℕ, ◌<◌, List, length, get_or, map, Some, option_map}
use Rattle.std.proofs.lemmas.Option.{same_Some, slice_get-map, slice_get-get_or}
use Rattle.std.specs.List.{slice_get}

module _ {X Y : Type 0} (f : X → Y) (xs : List X) (i : ℕ) (x : X) where
  pub item_here : i < length xs → x ≡ get_or xs i x → slice_get (map f xs) i ≡ Some (f x)
  item_here within is = slice_get-map f xs i ∙ ap (option_map f) (slice_get-get_or xs i x within ∙ ap Some (sym is))

  pub item_at : (y : Y) → i < length xs → x ≡ get_or xs i x → slice_get (map f xs) i ≡ Some y → f x ≡ y
  item_at y within is at = same_Some (f x) y (sym (item_here within is) ∙ at)
