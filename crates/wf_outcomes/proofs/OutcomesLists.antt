-- Lists, and rows of lists.
use Rattle.std.proofs.Common.{◌≡◌, refl, sym, ap, ◌∙◌, ℕ, ◌+◌, ◌<◌, zero, suc, List, [], ◌∷◌, length, get_or, set, map, replicate, Some, option_map, arith}
use Rattle.std.proofs.lemmas.Option.{same_Some, slice_get-map, slice_get-get_or}
use Rattle.std.specs.List.{slice_get}
use Rattle.wf_outcomes.specs.Merges.{Configuration, total}

-- an item that was read
module _ {X Y : Type 0} (f : X → Y) (xs : List X) (i : ℕ) (x : X) where
  pub item_here : i < length xs → x ≡ get_or xs i x → slice_get (map f xs) i ≡ Some (f x)
  item_here within is = slice_get-map f xs i ∙ ap (option_map f) (slice_get-get_or xs i x within ∙ ap Some (sym is))

  pub item_at : (y : Y) → i < length xs → x ≡ get_or xs i x → slice_get (map f xs) i ≡ Some y → f x ≡ y
  item_at y within is at = same_Some (f x) y (sym (item_here within is) ∙ at)

pub map_place : {X Y : Type 0} (f : X → Y) (xs : List X) (k : ℕ) (y : Y) → slice_get (map f xs) k ≡ Some y → (x : X) × (slice_get xs k ≡ Some x) × (f x ≡ y)
map_place f [] k y h = absurd (cc)
map_place f (x ∷ xs) zero y h = (x, refl, same_Some (f x) y h)
map_place f (x ∷ xs) (suc k) y h = map_place f xs k y h

pub place_map : {X Y : Type 0} (f : X → Y) (xs : List X) (k : ℕ) (x : X) → slice_get xs k ≡ Some x → slice_get (map f xs) k ≡ Some (f x)
place_map f xs k x h = slice_get-map f xs k ∙ ap (option_map f) h

pub sum_set : (xs : List ℕ) (p k : ℕ) → get_or xs p 0 ≡ k → p < length xs → total (set xs p (k + 1)) ≡ total xs + 1
sum_set [] p k e within = absurd (omega arith)
sum_set (x ∷ xs) zero k e within = omega arith
sum_set (x ∷ xs) (suc p) k e within = let r = sum_set xs p k e (omega arith) in omega (arith, r)

pub sum_none : (n : ℕ) → total (replicate n 0) ≡ 0
sum_none zero = refl
sum_none (suc n) = let r = sum_none n in omega (arith, r)

pub same_configuration : {State : Type 0} {xs ys : List ℕ} {s t : State} → xs ≡ ys → s ≡ t → ◌≡◌ {A = Configuration State} (record { counts = xs; state = s }) (record { counts = ys; state = t })
same_configuration {State} {xs} {ys} {s} {t} e f =
    ap (λ (l : List ℕ). record { counts = l; state = s }) e ∙ ap (λ (u : State). record { counts = ys; state = u }) f
