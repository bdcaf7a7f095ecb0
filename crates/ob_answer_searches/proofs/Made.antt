-- What is made one after the other.
use Rattle.std.proofs.Common.{◌≡◌, ◌∙◌, refl, sym, ap, subst, ℕ, ◌+◌, ◌<◌, zero, suc, List, [], ◌∷◌, ◌++◌, Option, None, Some, inl, inr, filter_map, get_or, length, take, arith}
use Rattle.std.proofs.lemmas.List.{length-append, take_more}
use Rattle.std.specs.List.{cons_option, slice_get}
use Rattle.wf_history.proofs.Positions.{place_push}

-- each item is right at its place
abbrev pub AreRight : {A : Type 0} → (ℕ → A → Type 0) → List A → Type 0
AreRight {A} P xs = (k : ℕ) (x : A) → slice_get xs k ≡ Some x → P k x

pub none_right : {A : Type 0} (P : ℕ → A → Type 0) (xs : List A) → xs ≡ [] → AreRight P xs
none_right {A} P xs none k x at = let e : slice_get [] k ≡ Some x = ap (λ (l : List A). slice_get l k) (sym none) ∙ at in absurd (cc)

pub one_right : {A : Type 0} (P : ℕ → A → Type 0) (xs : List A) (n : ℕ) → length xs ≡ n → AreRight P xs → (x : A) → P n x → (after : List A) → after ≡ xs ++ x ∷ [] → AreRight P after
one_right {A} P xs n size right x is after pushed k y at =
    elim (place_push xs x k y (ap (λ (l : List A). slice_get l k) (sym pushed) ∙ at)) [
      | inl old ↦ right k y old
      | inr new ↦ subst (P k) new.1 (subst (λ (m : ℕ). P m x) (sym (new.0 ∙ size)) is)
    ]

pub one_longer : {A : Type 0} (xs : List A) (n : ℕ) → length xs ≡ n → (x : A) (after : List A) → after ≡ xs ++ x ∷ [] → length after ≡ n + 1
one_longer xs n size x after pushed = let e = ap length pushed ∙ length-append xs (x ∷ []) in omega (arith, e, size)

pub none_or : {A : Type 0} (xs : List A) (k : ℕ) (d : A) → slice_get xs k ≡ None → get_or xs k d ≡ d
none_or [] k d none = refl
none_or (x ∷ xs) zero d none = absurd (cc)
none_or (x ∷ xs) (suc k) d none = none_or xs k d none

module _ {X Y : Type 0} (f : X → Option Y) where
  cons_append : (o : Option Y) (xs ys : List Y) → cons_option o xs ++ ys ≡ cons_option o (xs ++ ys)
  cons_append None xs ys = refl
  cons_append (Some y) xs ys = refl

  filter_map_append : (xs ys : List X) → filter_map f (xs ++ ys) ≡ filter_map f xs ++ filter_map f ys
  filter_map_append [] ys = refl
  filter_map_append (x ∷ xs) ys = ap (cons_option (f x)) (filter_map_append xs ys) ∙ sym (cons_append (f x) (filter_map f xs) (filter_map f ys))

  -- one item more, or none
  pub one_kept : (xs : List X) (k : ℕ) (d : X) → k < length xs → (old new : List Y) → old ≡ filter_map f (take k xs) → new ≡ old ++ filter_map f (get_or xs k d ∷ []) → new ≡ filter_map f (take (k + 1) xs)
  one_kept xs k d within old new so_far is =
      is ∙ ap (λ (l : List Y). l ++ filter_map f (get_or xs k d ∷ [])) so_far ∙ sym (filter_map_append (take k xs) (get_or xs k d ∷ [])) ∙ ap (filter_map f) (sym (take_more xs k d within))
