-- Lists, and rows of lists.
use Rattle.std.proofs.Common.{◌≡◌, refl, sym, ap, ◌∙◌, ℕ, ◌+◌, ◌<◌, ◌≤◌, List, [], ◌∷◌, ◌++◌, length, get_or, set, map, replicate, arith, inl, inr}
use Rattle.std.proofs.lemmas.Bool.{cases_lt}
use Rattle.std.proofs.lemmas.List.{get_or_past, map-append, replicate_more, map-set, get_or-map}
use Rattle.wf_order.specs.Rows.{row_of}
use Rattle.wf_order.specs.Steps.{Configuration}

pub all_within : (xs ys : List ℕ) (n : ℕ) → length xs ≤ n → ((k : ℕ) → k < n → get_or xs k 0 ≤ get_or ys k 0) → (k : ℕ) → get_or xs k 0 ≤ get_or ys k 0
all_within xs ys n le h k =
    elim (cases_lt k n) [
      | inl lt ↦ h k lt
      | inr ge ↦ let z = get_or_past xs k 0 (omega arith) in omega (arith, z)
    ]

module _ {A X : Type 0} (f : X → List A) where
  pub one_more_empty : (xs ys : List X) (v : X) (n : ℕ) → ys ≡ xs ++ v ∷ [] → f v ≡ [] → map f xs ≡ replicate n [] → map f ys ≡ replicate (n + 1) []
  one_more_empty xs ys v n e none h =
      ap (map f) e ∙ map-append f xs (v ∷ []) ∙ ap (λ (l : List (List A)). l ++ f v ∷ []) h ∙ ap (λ (l : List A). replicate n [] ++ l ∷ []) none ∙ replicate_more n []

  pub pushed_at : (rows : List X) (at : ℕ) (old new : X) (item : A) → at < length rows → old ≡ get_or rows at old → f new ≡ f old ++ item ∷ [] → map f (set rows at new) ≡ set (map f rows) at (row_of (map f rows) at ++ item ∷ [])
  pushed_at rows at old new item within is push =
      map-set f rows at new ∙ ap (set (map f rows) at) (push ∙ ap (λ (l : List A). l ++ item ∷ []) (ap f is ∙ sym (get_or-map f rows at old [] within)))

pub map-map : {A B C : Type 0} (f : B → C) (g : A → B) (xs : List A) → map f (map g xs) ≡ map (λ x. f (g x)) xs
map-map f g [] = refl
map-map {C} f g (x ∷ xs) = ap (λ (l : List C). f (g x) ∷ l) (map-map f g xs)

pub same_configuration : {State : Type 0} {xs ys : List ℕ} {s t : State} → xs ≡ ys → s ≡ t → ◌≡◌ {A = Configuration State} (record { counts = xs; state = s }) (record { counts = ys; state = t })
same_configuration {State} {xs} {ys} {s} {t} e f =
    ap (λ (l : List ℕ). record { counts = l; state = s }) e ∙ ap (λ (u : State). record { counts = ys; state = u }) f
