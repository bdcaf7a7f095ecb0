-- What stands in a list behind a write.
use Rattle.std.proofs.Common.{◌≡◌, ◌≢◌, ℕ, List, length, set, sym, ◌∙◌, length-set, get_or-set_same, get_or-set_other}
use Rattle.std.specs.Prelude.{Some, slice_get}
use Rattle.std.proofs.lemmas.Option.{slice_get_within, slice_get_read, get_or_from_slice_get}

module _ {X : Type 0} (xs : List X) (p : ℕ) (x : X) where
  pub put_at : (y : X) → slice_get xs p ≡ Some y → slice_get (set xs p x) p ≡ Some x
  put_at y at = let within = slice_get_within xs p y at in slice_get_read (set xs p x) (length xs) p x (sym (length-set xs p x)) within (sym (get_or-set_same xs p x x within))

  pub still_at : (k : ℕ) (y : X) → k ≢ p → slice_get xs k ≡ Some y → slice_get (set xs p x) k ≡ Some y
  still_at k y apart at = slice_get_read (set xs p x) (length xs) k y (sym (length-set xs p x)) (slice_get_within xs k y at) (sym (get_or-set_other xs p k x y apart ∙ get_or_from_slice_get xs k y y at))
