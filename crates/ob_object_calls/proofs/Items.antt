-- Items of a list, looked at one after the other.
use Rattle.std.proofs.Common.{◌≡◌, ◌∙◌, ℕ, ◌+◌, ◌<◌, ◌≤◌, zero, suc, List, [], ◌∷◌, ◌++◌, Some, add-one, ap, arith, drop, get_or, inl, inr, length, map, option_map, refl, slice_get, subst, take}
use Rattle.std.proofs.lemmas.Bool.{cases_lt}
use Rattle.std.proofs.lemmas.Option.{same_Some, slice_get-map, slice_get_read, slice_get_within}
use Rattle.std.specs.List.{Contains}
use Rattle.wf_history.proofs.Positions.{contains_at, one_item, place_of, take_next}

-- the item that a loop reads, in a list of what the items stand for
pub item_of : {A B : Type 0} (f : A → B) (xs : List A) (i : ℕ) (x : A) → i < length xs → x ≡ get_or xs i x → slice_get (map f xs) i ≡ Some (f x)
item_of f xs i x lt at = slice_get-map f xs i ∙ ap (option_map f) (slice_get_read xs (length xs) i x refl lt at)

pub take_item : {A B : Type 0} (f : A → B) (xs : List A) (i : ℕ) (x : A) → i < length xs → x ≡ get_or xs i x → take (i + 1) (map f xs) ≡ take i (map f xs) ++ f x ∷ []
take_item f xs i x lt at = rw add-one (take_next (map f xs) i (f x) (item_of f xs i x lt at))

-- a list is what stands before a place, the item there, and what stands behind it
pub split_here : {A : Type 0} (xs : List A) (k : ℕ) (x : A) → slice_get xs k ≡ Some x → xs ≡ take k xs ++ x ∷ drop (suc k) xs
split_here [] k x h = absurd (cc)
split_here (a ∷ xs) zero x h = ap (λ (b : _). b ∷ xs) (same_Some a x h)
split_here (a ∷ xs) (suc k) x h = ap (λ (ys : List _). a ∷ ys) (split_here xs k x h)

-- an item behind a place
pub behind_here : {A : Type 0} (xs : List A) (k m : ℕ) (x : A) → slice_get xs m ≡ Some x → k < m → Contains (drop (suc k) xs) x
behind_here [] k m x h lt = absurd (cc)
behind_here (a ∷ xs) k zero x h lt = absurd (omega arith)
behind_here (a ∷ xs) zero (suc m) x h lt = contains_at xs m x h
behind_here (a ∷ xs) (suc k) (suc m) x h lt = behind_here xs k m x h (omega arith)

module _ {A : Type 0} (Fact : A → Type 0) (items : List A) where
  -- the fact holds of none of the first so many items
  abbrev pub HoldsOfNone : ℕ → Type 0
  HoldsOfNone n = (k : ℕ) (other : A) → k < n → slice_get items k ≡ Some other → ¬ Fact other

  pub none_more : (i : ℕ) (x : A) → slice_get items i ≡ Some x → HoldsOfNone i → ¬ Fact x → HoldsOfNone (i + 1)
  none_more i x here before not k other lt at fact =
      elim (cases_lt k i) [
        | inl less ↦ before k other less at fact
        | inr ge ↦
            let same : k ≡ i = omega (arith, lt, ge) in
            let item = one_item items i other x (subst (λ (n : ℕ). slice_get items n ≡ Some other) same at) here in
            not (subst Fact item fact)
      ]

  pub none_at_all : (i : ℕ) → length items ≤ i → HoldsOfNone i → (x : A) → Contains items x → ¬ Fact x
  none_at_all i all before x has =
      let p = place_of items x has in
      let within = slice_get_within items p.0 x p.1 in
      before p.0 x (omega (arith, within, all)) p.1
