-- Items of a list by their places.
use Rattle.std.proofs.Common.{◌≡◌, refl, sym, ap, ◌∙◌, ℕ, ◌+◌, ◌-◌, ◌<◌, zero, suc, List, [], ◌∷◌, ◌++◌, length, take, Some, arith, ◌⊎◌, inl, inr}
use Rattle.std.proofs.lemmas.Option.{same_Some, slice_get_within, slice_get-get_or, get_or_from_slice_get}
use Rattle.std.proofs.lemmas.Bool.{cases_eq}
use Rattle.std.specs.List.{slice_get, Contains}
use Rattle.wf_history.specs.declared.event.CallId.{CallId}
use Rattle.wf_history.specs.Legal.{NoRepeats}

module _ {A : Type 0} where
  pub place_left : (xs ys : List A) (k : ℕ) (x : A) → slice_get xs k ≡ Some x → slice_get (xs ++ ys) k ≡ Some x
  place_left [] ys k x h = absurd (cc)
  place_left (a ∷ xs) ys zero x h = h
  place_left (a ∷ xs) ys (suc k) x h = place_left xs ys k x h

  pub place_behind : (xs ys : List A) (k : ℕ) → slice_get (xs ++ ys) (length xs + k) ≡ slice_get ys k
  place_behind [] ys k = ap (slice_get ys) (omega arith)
  place_behind (a ∷ xs) ys k =
      let same : suc (length xs) + k ≡ suc (length xs + k) = omega arith in
      ap (slice_get (a ∷ (xs ++ ys))) same ∙ place_behind xs ys k

  pub place_here : (xs ys : List A) (x : A) → slice_get (xs ++ x ∷ ys) (length xs) ≡ Some x
  place_here [] ys x = refl
  place_here (a ∷ xs) ys x = place_here xs ys x

  pub place_push : (xs : List A) (y : A) (k : ℕ) (x : A) → slice_get (xs ++ y ∷ []) k ≡ Some x → (slice_get xs k ≡ Some x) ⊎ ((k ≡ length xs) × (y ≡ x))
  place_push [] y zero x h = inr (refl, same_Some y x h)
  place_push [] y (suc k) x h = absurd (cc)
  place_push (a ∷ xs) y zero x h = inl h
  place_push (a ∷ xs) y (suc k) x h =
      elim (place_push xs y k x h) [ inl e ↦ inl e | inr e ↦ inr (ap suc e.0, e.1) ]

  pub place_take : (n : ℕ) (xs : List A) (k : ℕ) (x : A) → slice_get (take n xs) k ≡ Some x → (slice_get xs k ≡ Some x) × (k < n)
  place_take zero xs k x h = absurd (cc)
  place_take (suc n) [] k x h = absurd (cc)
  place_take (suc n) (a ∷ xs) zero x h = (h, omega arith)
  place_take (suc n) (a ∷ xs) (suc k) x h = let r = place_take n xs k x h in (r.0, let lt : k < n = r.1 in omega arith)

  pub place_in_take : (n : ℕ) (xs : List A) (k : ℕ) (x : A) → slice_get xs k ≡ Some x → k < n → slice_get (take n xs) k ≡ Some x
  place_in_take zero xs k x h lt = absurd (omega arith)
  place_in_take (suc n) [] k x h lt = absurd (cc)
  place_in_take (suc n) (a ∷ xs) zero x h lt = h
  place_in_take (suc n) (a ∷ xs) (suc k) x h lt = place_in_take n xs k x h (omega arith)

  pub take_next : (xs : List A) (k : ℕ) (x : A) → slice_get xs k ≡ Some x → take (suc k) xs ≡ take k xs ++ x ∷ []
  take_next [] k x h = absurd (cc)
  take_next (a ∷ xs) zero x h = ap (λ (b : A). b ∷ []) (same_Some a x h)
  take_next (a ∷ xs) (suc k) x h = ap (λ (ys : List A). a ∷ ys) (take_next xs k x h)

  pub place_of : (xs : List A) (x : A) → Contains xs x → (k : ℕ) × (slice_get xs k ≡ Some x)
  place_of xs x h = (h.0, slice_get-get_or xs h.0 x h.1 ∙ ap Some h.2)

  pub contains_at : (xs : List A) (k : ℕ) (x : A) → slice_get xs k ≡ Some x → Contains xs x
  contains_at xs k x h = (k, slice_get_within xs k x h, get_or_from_slice_get xs k x x h)

  pub one_item : (xs : List A) (k : ℕ) (x y : A) → slice_get xs k ≡ Some x → slice_get xs k ≡ Some y → x ≡ y
  one_item xs k x y h g = same_Some x y (sym h ∙ g)

  -- a list is what stands before a place, the item there, and what stands behind it
  pub split_at : (xs : List A) (k : ℕ) (x : A) → slice_get xs k ≡ Some x → (first : List A) × (last : List A) × (xs ≡ first ++ x ∷ last) × (length first ≡ k)
  split_at [] k x h = absurd (cc)
  split_at (a ∷ xs) zero x h = ([], xs, ap (λ (b : A). b ∷ xs) (same_Some a x h), refl)
  split_at (a ∷ xs) (suc k) x h =
      let r = split_at xs k x h in
      (a ∷ r.0, r.1, ap (λ (ys : List A). a ∷ ys) r.2, ap suc r.3)

module _ {A : Type 0} where
  -- the same of two places
  pub split_twice : (xs : List A) (k m : ℕ) (x y : A) → k < m → slice_get xs k ≡ Some x → slice_get xs m ≡ Some y →
      (first : List A) × (between : List A) × (last : List A) × (xs ≡ first ++ x ∷ (between ++ y ∷ last))
  split_twice xs k m x y lt h g =
      let r = split_at xs k x h in
      let n : length r.0 ≡ k = r.3 in
      let far : m ≡ length r.0 + suc (m - suc k) = omega arith in
      let there : slice_get r.1 (m - suc k) ≡ Some y =
      sym (place_behind r.0 (x ∷ r.1) (suc (m - suc k))) ∙ ap (λ (ys : List A). slice_get ys (length r.0 + suc (m - suc k))) (sym r.2) ∙ ap (slice_get xs) (sym far) ∙ g in
      let s = split_at r.1 (m - suc k) y there in
      (r.0, s.0, s.1, r.2 ∙ ap (λ (ys : List A). r.0 ++ x ∷ ys) s.2)

  -- the places of the two parts of a split
  pub places_of_split : (xs first between last : List A) (x y : A) → xs ≡ first ++ x ∷ (between ++ y ∷ last) →
      (slice_get xs (length first) ≡ Some x) × (slice_get xs (length first + suc (length between)) ≡ Some y)
  places_of_split xs first between last x y h =
      let at = λ (n : ℕ). ap (λ (ys : List A). slice_get ys n) h in (
        at (length first) ∙ place_here first (between ++ y ∷ last) x,
        at (length first + suc (length between)) ∙ place_behind first (x ∷ (between ++ y ∷ last)) (suc (length between)) ∙ place_here between last y,
      )

-- a call is its process and its number
pub same_call : (a b : CallId) → a.process ≡ b.process → a.number ≡ b.number → a ≡ b
same_call a b e f =
    ap (λ (p : ℕ). record { process = p; number = a.number }) e ∙ ap (λ (n : ℕ). record { process = b.process; number = n }) f

is_call : (a b : CallId) → (a ≡ b) ⊎ (a ≡ b → ⊥)
is_call a b =
    elim (cases_eq a.process b.process) [
      | inl e ↦ elim (cases_eq a.number b.number) [ inl f ↦ inl (same_call a b e f) | inr ne ↦ inr (λ same. ne (ap (λ (c : CallId). c.number) same)) ]
      | inr ne ↦ inr (λ same. ne (ap (λ (c : CallId). c.process) same))
    ]

not_listed : (a : CallId) (ids : List CallId) (id : CallId) → (a ≡ id → ⊥) → ¬ Contains ids id → (k : ℕ) → slice_get (a ∷ ids) k ≡ Some id → ⊥
not_listed a ids id other missing zero h = other (same_Some a id h)
not_listed a ids id other missing (suc k) h = missing (contains_at ids k id h)

-- a call is in a list, or it isn't
pub is_listed : (ids : List CallId) (id : CallId) → Contains ids id ⊎ (¬ Contains ids id)
is_listed [] id = inr (λ c. let p = place_of [] id c in let h = p.1 in absurd (cc))
is_listed (a ∷ ids) id =
    elim (is_call a id) [
      | inl e ↦ inl (contains_at (a ∷ ids) 0 id (ap Some e))
      | inr other ↦ elim (is_listed ids id) [
        | inl c ↦ let p = place_of ids id c in inl (contains_at (a ∷ ids) (suc p.0) id p.1)
        | inr missing ↦ inr (λ c. let p = place_of (a ∷ ids) id c in not_listed a ids id other missing p.0 p.1)
      ]
    ]

-- a list without repeats has each item at one place
pub no_repeats : (ids : List CallId) → ((k m : ℕ) (id : CallId) → k < m → slice_get ids k ≡ Some id → slice_get ids m ≡ Some id → ⊥) → NoRepeats ids
no_repeats [] h = tt
no_repeats (a ∷ ids) h = (
  (λ c. let p = place_of ids a c in h 0 (suc p.0) a (omega arith) refl p.1),
  no_repeats ids (λ k m id lt at also. h (suc k) (suc m) id (omega arith) at also),
)

pub one_place : (ids : List CallId) (k m : ℕ) (id : CallId) → NoRepeats ids → k < m → slice_get ids k ≡ Some id → slice_get ids m ≡ Some id → ⊥
one_place [] k m id h lt at also = absurd (cc)
one_place (a ∷ ids) k zero id h lt at also = absurd (omega arith)
one_place (a ∷ ids) zero (suc m) id h lt at also = h.0 (contains_at ids m a (also ∙ sym at))
one_place (a ∷ ids) (suc k) (suc m) id h lt at also = one_place ids k m id h.1 (omega arith) at also
