-- What toggles tell: who is pending, whom an exchange serves.
use Rattle.std.proofs.Common.{◌≡◌, ◌≢◌, ℕ, ◌+◌, ◌%◌, ◌<◌, true, refl, sym, ap, ◌∙◌, arith, inl, inr}
use Rattle.std.specs.Prelude.{ℤ, pos, ◌⊎◌}
use Rattle.std.proofs.lemmas.Bool.{cases_lt}
use Rattle.wf_table.specs.Helping.{Standing, IsPending, IsNewer, IsCounted, Phase, Looking, Serving, has_copied, looked_at, IsHelping}

pub parity_turns : (k : ℕ) → pos (k % 2) ≢ pos ((k + 1) % 2)
parity_turns k e = let same : k % 2 ≡ (k + 1) % 2 = cc in absurd (omega (arith, same))

module _ (n : ℕ) (s : Standing) (counted : IsCounted n s) where
  pub pending_differs : (k : ℕ) → k < n → IsPending s k → s.root k ≢ s.announced k
  pending_differs k lt pending e =
      let one : s.flips k ≡ s.applied k + 1 = omega (arith, counted.one_open k lt, pending) in
      parity_turns (s.applied k) (sym (counted.root k lt) ∙ e ∙ counted.announced k lt ∙ ap (λ (m : ℕ). pos (m % 2)) one)

  pub differs_pending : (k : ℕ) → k < n → s.root k ≢ s.announced k → IsPending s k
  differs_pending k lt differs =
      elim (cases_lt (s.applied k) (s.flips k)) [
        | inl less ↦ less
        | inr more ↦ (let same : s.applied k ≡ s.flips k = omega (arith, counted.begun k lt, more) in
            absurd (differs (counted.root k lt ∙ ap (λ (m : ℕ). pos (m % 2)) same ∙ sym (counted.announced k lt))))
      ]

  -- of one process that is linked
  module _ (p : ℕ) (own : ℕ → ℤ) (phase : Phase) (j lost : ℕ) (h : IsHelping n s p true own phase j lost) where
    -- whoever is served is pending
    pub served_pending : phase ≡ Serving → j < n → IsPending s j
    served_pending serves lt =
        elim (h.own_toggles (ap has_copied serves) refl j lt) [
          | inl same ↦ differs_pending j lt (λ e. h.wanted_help serves refl (same ∙ e))
          | inr made ↦ made.1
        ]

    -- whose toggles differ between the own block and the root is pending
    pub made_pending : has_copied phase ≡ true → (k : ℕ) → k < n → own k ≢ s.root k → IsPending s k
    made_pending copied k lt differs =
        elim (h.own_toggles copied refl k lt) [
          | inl same ↦ absurd (differs same)
          | inr made ↦ made.1
        ]

    -- what is asked is given: the own call, and each pending one that was announced before the last exchange
    pub given : phase ≡ Looking → j ≡ n → (k : ℕ) → k < n → IsPending s k → (k ≡ p) ⊎ IsNewer s k → own k ≢ s.root k
    given looks all k lt pending asked e =
        let copied : has_copied phase ≡ true = ap has_copied looks in
        let seen : k < looked_at phase j = rw looks (omega (arith, all, lt)) in
        let helped : own k ≡ s.announced k = elim asked [
          | inl is ↦ rw is (h.own_helped copied refl (rw (← is) seen))
          | inr newer ↦ h.older_helped copied refl k seen newer
        ] in
        pending_differs k lt pending (sym e ∙ helped)
