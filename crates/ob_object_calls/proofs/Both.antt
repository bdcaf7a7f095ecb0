-- What there is of two lists together, one by one.
use Rattle.std.proofs.Common.{◌≡◌, ◌∙◌, ℕ, ◌+◌, ◌<◌, min, List, [], ◌∷◌, ◌++◌, drop, length, get_or, inl, inr, refl, sym, ap, arith, add-one, drop-cons, append_assoc, append-nil}
use Rattle.std.proofs.lemmas.Bool.{cases_lt}
use Rattle.std.proofs.lemmas.List.{drop_all}
use Rattle.ob_object_calls.specs.DetailLines.{of_both}

module _ {A B C : Type 0} (f : A → B → List C) (xs : List A) (ys : List B) where
  parts : (n : ℕ) (x : A) (y : B) → n < length xs → x ≡ get_or xs n x → n < length ys → y ≡ get_or ys n y →
      of_both f (drop n xs) (drop n ys) ≡ f x y ++ of_both f (drop (n + 1) xs) (drop (n + 1) ys)
  parts n x y below at within here = rw (drop-cons xs n x, ← at, drop-cons ys n y, ← here, add-one) refl

  -- one more of each
  pub both_more : (so_far next all : List C) (n : ℕ) (x : A) (y : B) → n < length xs → x ≡ get_or xs n x → n < length ys → y ≡ get_or ys n y →
      next ≡ so_far ++ f x y → so_far ++ of_both f (drop n xs) (drop n ys) ≡ all → next ++ of_both f (drop (n + 1) xs) (drop (n + 1) ys) ≡ all
  both_more so_far next all n x y below at within here is before =
      let rest = of_both f (drop (n + 1) xs) (drop (n + 1) ys) in
      ap (λ t. t ++ rest) is ∙ append_assoc so_far (f x y) rest ∙ ap (λ t. so_far ++ t) (sym (parts n x y below at within here)) ∙ before

  none_left : (zs : List A) → of_both f zs [] ≡ []
  none_left [] = refl
  none_left (z ∷ zs) = refl

  pub both_all : (so_far all : List C) (n : ℕ) → n ≡ min (length xs) (length ys) → so_far ++ of_both f (drop n xs) (drop n ys) ≡ all → so_far ≡ all
  both_all so_far all n e before =
      sym (append-nil so_far) ∙ ap (λ t. so_far ++ t) (sym none) ∙ before
    where
      none : of_both f (drop n xs) (drop n ys) ≡ []
      none = elim (cases_lt n (length xs)) [
        | inl less ↦ ap (λ zs. of_both f (drop n xs) zs) (drop_all n ys (omega (arith, e, less))) ∙ none_left (drop n xs)
        | inr past ↦ ap (λ zs. of_both f zs (drop n ys)) (drop_all n xs past)
      ]
