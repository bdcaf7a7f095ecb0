-- The places of calls in an order, one call more.
use Rattle.std.proofs.Common.{◌≡◌, ap, ◌∙◌, sym, ℕ, ◌+◌, ◌<◌, Bool, true, false, cond, List, length, get_or, take, arith, inl, inr, ◌⊎◌}
use Rattle.std.proofs.lemmas.Bool.{and_left, and_right, cases_eq, eq-eqb, ne_eqb}
use Rattle.std.proofs.lemmas.List.{take_more, length-take-le}
use Rattle.std.specs.Prelude.{nat_eq, ◌&&◌}
use Rattle.ob_picture_chart.proofs.Numbers.{number_push}
use Rattle.ob_picture_chart.specs.Moments.{place_in}
use Rattle.ob_picture_chart.specs.Same.{is_same}
use Rattle.wf_history.proofs.Positions.{same_call}
use Rattle.wf_history.specs.declared.event.CallId.{CallId}

-- the test of two calls says whether they are one
told_apart : (a b : CallId) → ((is_same a b ≡ true) × (a ≡ b)) ⊎ (is_same a b ≡ false)
told_apart a b =
    elim (cases_eq a.process b.process) [
      | inl e ↦ elim (cases_eq a.number b.number) [
        | inl f ↦ inl (ap (λ (x : Bool). x && nat_eq a.number b.number) (eq-eqb a.process b.process e) ∙ eq-eqb a.number b.number f, same_call a b e f)
        | inr other ↦ inr (and_right (nat_eq a.process b.process) (nat_eq a.number b.number) (ne_eqb a.number b.number other))
      ]
      | inr other ↦ inr (and_left (nat_eq a.process b.process) (nat_eq a.number b.number) (ne_eqb a.process b.process other))
    ]

kept_number : (n : ℕ) → cond (nat_eq n 0) 0 n ≡ n
kept_number n =
    elim (cases_eq n 0) [
      | inl e ↦ ap (λ (b : Bool). cond b 0 n) (eq-eqb n 0 e) ∙ sym e
      | inr other ↦ ap (λ (b : Bool). cond b 0 n) (ne_eqb n 0 other)
    ]

module _ (ids : List CallId) (k : ℕ) (other : CallId) (below : k < length ids) where
  abbrev pub here : CallId
  here = get_or ids k other

  -- the place in the order with the call there
  pushed : (q : CallId) → place_in (take (k + 1) ids) q ≡ cond (nat_eq (place_in (take k ids) q) 0) (cond (is_same here q) (k + 1) 0) (place_in (take k ids) q)
  pushed q =
      let many : length (take k ids) ≡ k = length-take-le k ids (omega (arith, below)) in
      ap (λ (xs : List CallId). place_in xs q) (take_more ids k other below)
      ∙ number_push (λ (x : CallId). is_same x q) (take k ids) here
      ∙ ap (λ (n : ℕ). cond (nat_eq (place_in (take k ids) q) 0) (cond (is_same here q) (n + 1) 0) (place_in (take k ids) q)) many

  -- a call that stands nowhere before
  pub noted_new : (has more : CallId → ℕ) → ((q : CallId) → has q ≡ place_in (take k ids) q) → has here ≡ 0 → ((q : CallId) → more q ≡ cond (is_same here q) (k + 1) (has q)) →
      (q : CallId) → more q ≡ place_in (take (k + 1) ids) q
  noted_new has more known none new q =
      elim (told_apart here q) [
        | inl same ↦
            let zero_here : place_in (take k ids) q ≡ 0 = sym (known q) ∙ ap has (sym same.1) ∙ none in
            new q ∙ ap (λ (b : Bool). cond b (k + 1) (has q)) same.0
            ∙ sym (pushed q ∙ ap (λ (n : ℕ). cond (nat_eq n 0) (cond (is_same here q) (k + 1) 0) n) zero_here ∙ ap (λ (b : Bool). cond b (k + 1) 0) same.0)
        | inr apart ↦
            new q ∙ ap (λ (b : Bool). cond b (k + 1) (has q)) apart ∙ known q
            ∙ sym (pushed q ∙ ap (λ (b : Bool). cond (nat_eq (place_in (take k ids) q) 0) (cond b (k + 1) 0) (place_in (take k ids) q)) apart ∙ kept_number (place_in (take k ids) q))
      ]

  -- a call that stands there before
  pub noted_old : (has : CallId → ℕ) → ((q : CallId) → has q ≡ place_in (take k ids) q) → (has here ≡ 0 → ⊥) → (q : CallId) → has q ≡ place_in (take (k + 1) ids) q
  noted_old has known some q =
      elim (told_apart here q) [
        | inl same ↦
            let place = place_in (take k ids) q in
            let there : place_in (take k ids) q ≡ 0 → ⊥ = λ e. some (ap has same.1 ∙ known q ∙ e) in
            known q ∙ sym (pushed q ∙ ap (λ (b : Bool). cond b (cond (is_same here q) (k + 1) 0) (place_in (take k ids) q)) (ne_eqb (place_in (take k ids) q) 0 there))
        | inr apart ↦
            known q
            ∙ sym (pushed q ∙ ap (λ (b : Bool). cond (nat_eq (place_in (take k ids) q) 0) (cond b (k + 1) 0) (place_in (take k ids) q)) apart ∙ kept_number (place_in (take k ids) q))
      ]
