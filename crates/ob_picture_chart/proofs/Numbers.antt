-- The number of the first item of a list that passes a test, from 1; 0 where none does.
use Rattle.std.proofs.Common.{◌≡◌, ap, ◌∙◌, sym, refl, ℕ, ◌+◌, ◌<◌, ◌≤◌, Bool, true, false, not, cond, List, [], ◌∷◌, ◌++◌, length, Some, None, arith, inl, inr, ltb, length-append}
use Rattle.std.proofs.lemmas.Bool.{cases_Bool, cases_lt, eq-eqb, ne_eqb, lt-ltb, le-ltb, or_left}
use Rattle.std.proofs.lemmas.List.Folds.{position_or_len_push}
use Rattle.std.specs.List.{list_any, position_or_len}
use Rattle.std.specs.Prelude.{position, nat_eq, ◌||◌}
use Rattle.ob_picture_chart.specs.Moments.{number_at}

number_below : (i len : ℕ) → i < len → number_at (cond (ltb i len) (Some i) None) ≡ i + 1
number_below i len below = ap (λ (b : Bool). number_at (cond b (Some i) None)) (lt-ltb i len below)

number_past : (i len : ℕ) → len ≤ i → number_at (cond (ltb i len) (Some i) None) ≡ 0
number_past i len past = ap (λ (b : Bool). number_at (cond b (Some i) None)) (le-ltb i len past)

module _ {X : Type 0} (p : X → Bool) where
  abbrev pub number_of : List X → ℕ
  number_of xs = number_at (position p xs)

  -- the first item passes
  here : (x : X) (xs : List X) → p x ≡ true → number_of (x ∷ xs) ≡ 1
  here x xs holds =
      let i : position_or_len p (x ∷ xs) ≡ 0 = ap (λ (b : Bool). cond (not b) (1 + position_or_len p xs) 0) holds in
      number_below (position_or_len p (x ∷ xs)) (length (x ∷ xs)) (omega (arith, i)) ∙ ap (λ (k : ℕ). k + 1) i

  -- it does not, but one behind it
  behind : (x : X) (xs : List X) → p x ≡ false → position_or_len p (x ∷ xs) ≡ 1 + position_or_len p xs
  behind x xs fails = ap (λ (b : Bool). cond (not b) (1 + position_or_len p xs) 0) fails

  pub within : (xs : List X) → position_or_len p xs ≤ length xs
  within [] = omega arith
  within (x ∷ xs) =
      let rest = within xs in
      elim (cases_Bool (p x)) [
        | inl holds ↦ let i : position_or_len p (x ∷ xs) ≡ 0 = ap (λ (b : Bool). cond (not b) (1 + position_or_len p xs) 0) holds in omega (arith, i)
        | inr fails ↦ let i = behind x xs fails in omega (arith, i, rest)
      ]

  pub number_within : (xs : List X) → number_of xs ≤ length xs
  number_within xs =
      elim (cases_lt (position_or_len p xs) (length xs)) [
        | inl below ↦ let n = number_below (position_or_len p xs) (length xs) below in omega (arith, n, below)
        | inr past ↦ let n = number_past (position_or_len p xs) (length xs) past in omega (arith, n)
      ]

  -- some item passes exactly where there is a number
  pub any_number : (xs : List X) → list_any p xs ≡ not (nat_eq (number_of xs) 0)
  any_number [] = refl
  any_number (x ∷ xs) =
      elim (cases_Bool (p x)) [
        | inl holds ↦ or_left (p x) (list_any p xs) holds ∙ sym (ap (λ (n : ℕ). not (nat_eq n 0)) (here x xs holds))
        | inr fails ↦
            let i = behind x xs fails in
            let rest : list_any p (x ∷ xs) ≡ not (nat_eq (number_of xs) 0) = ap (λ (b : Bool). b || list_any p xs) fails ∙ any_number xs in
            elim (cases_lt (position_or_len p xs) (length xs)) [
              | inl below ↦
                  let old = number_below (position_or_len p xs) (length xs) below in
                  let new = number_below (position_or_len p (x ∷ xs)) (length (x ∷ xs)) (omega (arith, i, below)) in
                  rest ∙ ap not (ne_eqb (number_of xs) 0 (λ e. omega (arith, old, e)) ∙ sym (ne_eqb (number_of (x ∷ xs)) 0 (λ e. omega (arith, new, e))))
              | inr past ↦
                  let old = number_past (position_or_len p xs) (length xs) past in
                  let new = number_past (position_or_len p (x ∷ xs)) (length (x ∷ xs)) (omega (arith, i, past)) in
                  rest ∙ ap (λ (n : ℕ). not (nat_eq n 0)) (old ∙ sym new)
            ]
      ]

  -- one item more, where none before it passes
  pushed : (xs : List X) (y : X) → position_or_len p (xs ++ y ∷ []) ≡ length xs + cond (p y) 0 1 → length (xs ++ y ∷ []) ≡ length xs + 1 → number_of (xs ++ y ∷ []) ≡ cond (p y) (length xs + 1) 0
  pushed xs y i len =
      elim (cases_Bool (p y)) [
        | inl holds ↦
            let at : position_or_len p (xs ++ y ∷ []) ≡ length xs + 0 = i ∙ ap (λ (b : Bool). length xs + cond b 0 1) holds in
            let new = number_below (position_or_len p (xs ++ y ∷ [])) (length (xs ++ y ∷ [])) (omega (arith, at, len)) in
            let number : number_of (xs ++ y ∷ []) ≡ length xs + 1 = omega (arith, new, at) in
            number ∙ sym (ap (λ (b : Bool). cond b (length xs + 1) 0) holds)
        | inr fails ↦
            let at : position_or_len p (xs ++ y ∷ []) ≡ length xs + 1 = i ∙ ap (λ (b : Bool). length xs + cond b 0 1) fails in
            let new = number_past (position_or_len p (xs ++ y ∷ [])) (length (xs ++ y ∷ [])) (omega (arith, at, len)) in
            new ∙ sym (ap (λ (b : Bool). cond b (length xs + 1) 0) fails)
      ]

  -- one item more
  pub number_push : (xs : List X) (y : X) → number_of (xs ++ y ∷ []) ≡ cond (nat_eq (number_of xs) 0) (cond (p y) (length xs + 1) 0) (number_of xs)
  number_push xs y =
      let len : length (xs ++ y ∷ []) ≡ length xs + 1 = length-append xs (y ∷ []) in
      let push = position_or_len_push p xs y in
      let most = within xs in
      elim (cases_lt (position_or_len p xs) (length xs)) [
        | inl below ↦
            let i : position_or_len p (xs ++ y ∷ []) ≡ position_or_len p xs =
            push ∙ ap (λ (b : Bool). cond b (length xs + cond (p y) 0 1) (position_or_len p xs)) (ne_eqb (position_or_len p xs) (length xs) (λ e. omega (arith, e, below))) in
            let old = number_below (position_or_len p xs) (length xs) below in
            let new = number_below (position_or_len p (xs ++ y ∷ [])) (length (xs ++ y ∷ [])) (omega (arith, i, len, below)) in
            new ∙ ap (λ (k : ℕ). k + 1) i ∙ sym old
            ∙ sym (ap (λ (b : Bool). cond b (cond (p y) (length xs + 1) 0) (number_of xs)) (ne_eqb (number_of xs) 0 (λ e. omega (arith, e, old))))
        | inr past ↦
            let i : position_or_len p (xs ++ y ∷ []) ≡ length xs + cond (p y) 0 1 =
            push ∙ ap (λ (b : Bool). cond b (length xs + cond (p y) 0 1) (position_or_len p xs)) (eq-eqb (position_or_len p xs) (length xs) (omega (arith, most, past))) in
            let old = number_past (position_or_len p xs) (length xs) past in
            pushed xs y i len ∙ sym (ap (λ (b : Bool). cond b (cond (p y) (length xs + 1) 0) (number_of xs)) (eq-eqb (number_of xs) 0 old))
      ]
