-- Lists of one length, and lists with one item more.
use Rattle.std.proofs.Common.{◌≡◌, refl, ap, ◌∙◌, ℕ, ◌+◌, ◌<◌, zero, suc, List, [], ◌∷◌, ◌++◌, length, map, Some, ◌⊎◌, inl, inr, option_map, arith}
use Rattle.std.proofs.lemmas.Option.{same_Some, slice_get_within, slice_get-map}
use Rattle.std.specs.List.{slice_get}
use Rattle.wf_history.proofs.Positions.{place_push}

-- what stands at a place
pub item_at : {A : Type 0} (xs : List A) (k : ℕ) → k < length xs → (x : A) × (slice_get xs k ≡ Some x)
item_at [] k within = absurd (omega (arith, within))
item_at (x ∷ xs) zero within = (x, refl)
item_at (x ∷ xs) (suc k) within = item_at xs k (omega (arith, within))

-- what stands at the same place of a list as long
pub beside : {A B : Type 0} (xs : List A) (ys : List B) → length xs ≡ length ys → (k : ℕ) (y : B) → slice_get ys k ≡ Some y → (x : A) × (slice_get xs k ≡ Some x)
beside xs ys same k y at = let within = slice_get_within ys k y at in item_at xs k (omega (arith, within, same))

pub of_map : {A B : Type 0} (f : A → B) (xs : List A) (k : ℕ) (y : B) → slice_get (map f xs) k ≡ Some y → (x : A) × (slice_get xs k ≡ Some x) × (f x ≡ y)
of_map f [] k y at = absurd (cc)
of_map f (x ∷ xs) zero y at = (x, refl, same_Some (f x) y at)
of_map f (x ∷ xs) (suc k) y at = of_map f xs k y at

pub in_map : {A B : Type 0} (f : A → B) (xs : List A) (k : ℕ) (x : A) → slice_get xs k ≡ Some x → slice_get (map f xs) k ≡ Some (f x)
in_map f xs k x at = slice_get-map f xs k ∙ ap (option_map f) at

-- one item more in both of two lists of one length
pub push_both : {A B : Type 0} (xs : List A) (ys : List B) → length xs ≡ length ys → (x : A) (y : B) (k : ℕ) (a : A) (b : B) →
    slice_get (xs ++ x ∷ []) k ≡ Some a → slice_get (ys ++ y ∷ []) k ≡ Some b →
    ((slice_get xs k ≡ Some a) × (slice_get ys k ≡ Some b)) ⊎ ((k ≡ length xs) × (x ≡ a) × (y ≡ b))
push_both xs ys same x y k a b at also =
    elim (place_push xs x k a at) [
      | inl one ↦ elim (place_push ys y k b also) [
        | inl two ↦ inl (one, two)
        | inr two ↦ let within = slice_get_within xs k a one in let e = two.0 in absurd (omega (arith, within, e, same))
      ]
      | inr one ↦ elim (place_push ys y k b also) [
        | inl two ↦ let within = slice_get_within ys k b two in let e = one.0 in absurd (omega (arith, within, e, same))
        | inr two ↦ inr (one.0, one.1, two.1)
      ]
    ]

-- a list that is not empty is a list with one item more
pub last_of : {A : Type 0} (n : ℕ) (xs : List A) → length xs ≡ n + 1 → (first : List A) × (x : A) × (xs ≡ first ++ x ∷ []) × (length first ≡ n)
last_of n [] size = absurd (omega (arith, size))
last_of zero (x ∷ []) size = ([], x, refl, refl)
last_of (suc n) (x ∷ []) size = absurd (omega (arith, size))
last_of zero (x ∷ y ∷ xs) size = absurd (omega (arith, size))
last_of (suc n) (x ∷ y ∷ xs) size =
    let r = last_of n (y ∷ xs) (omega (arith, size)) in
    (x ∷ r.0, r.1, ap (λ l. x ∷ l) r.2, ap suc r.3)

-- where an item of two lists, one behind the other, stands
pub either_part : {A : Type 0} (xs ys : List A) (k : ℕ) (x : A) → slice_get (xs ++ ys) k ≡ Some x →
    (slice_get xs k ≡ Some x) ⊎ ((j : ℕ) × (k ≡ length xs + j) × (slice_get ys j ≡ Some x))
either_part [] ys k x at = inr (k, omega arith, at)
either_part (a ∷ xs) ys zero x at = inl at
either_part (a ∷ xs) ys (suc k) x at =
    elim (either_part xs ys k x at) [ inl one ↦ inl one | inr r ↦ let e = r.1 in inr (r.0, omega (arith, e), r.2) ]
