-- What an exchange of process p leaves to all: who asked was given, and the toggles of the root stay parities.
use Rattle.std.proofs.Common.{◌≡◌, ◌≢◌, ℕ, ◌+◌, ◌%◌, ◌<◌, ◌≤◌, Bool, true, false, refl, sym, ap, ◌∙◌, arith, inl, inr}
use Rattle.std.specs.Prelude.{ℤ, pos, ◌⊎◌}
use Rattle.std.proofs.lemmas.Bool.{false≢true}
use Rattle.std.proofs.Common.{Decides, int_eq}
use Rattle.std.proofs.lemmas.Bool.Decides.{Decides-int_eq}
use Rattle.wf_table.specs.Toggles.{IsBit}
use Rattle.wf_table.specs.Helping.{Standing, IsPending, IsNewer, IsCounted, Phase, Looking, IsHelping}
use Rattle.wf_table.proofs.Changes.{IsExchanged}
use Rattle.wf_table.proofs.Seen.{given, made_pending}

decided : (x y : ℤ) (b : Bool) → Decides b (x ≡ y) → (x ≡ y) ⊎ (x ≢ y)
decided x y true d = inl (d.0 refl)
decided x y false d = inr (λ e. false≢true (d.1 e))

pub cases_words : (x y : ℤ) → (x ≡ y) ⊎ (x ≢ y)
cases_words x y = decided x y (int_eq x y) (Decides-int_eq x y)

-- of two unequal bits one is the other's turn
turned : (a : ℤ) (k : ℕ) → IsBit a → a ≢ pos (k % 2) → a ≡ pos ((k + 1) % 2)
turned a k (inl is) d = (let odd : (k + 1) % 2 ≡ 0 = (let one : k % 2 ≢ 0 = λ e. d (is ∙ ap pos (sym e)) in omega (arith, one)) in is ∙ ap pos (sym odd))
turned a k (inr is) d = (let even : (k + 1) % 2 ≡ 1 = (let zero : k % 2 ≢ 1 = λ e. d (is ∙ ap pos (sym e)) in omega (arith, zero)) in is ∙ ap pos (sym even))

module _ (n : ℕ) (s t : Standing) (counted : IsCounted n s) (p : ℕ) (own : ℕ → ℤ) (j lost : ℕ) (h : IsHelping n s p true own Looking j lost) (all : j ≡ n) (exchanged : IsExchanged n own s t) where
  -- in the order now are those whose toggles differ
  either : (k : ℕ) → k < n → (t.applied k ≡ s.applied k) ⊎ ((own k ≢ s.root k) × (t.applied k ≡ s.applied k + 1))
  either k lt = elim (cases_words (own k) (s.root k)) [
    | inl e ↦ inl (exchanged.stays k lt e)
    | inr d ↦ inr (d, exchanged.one_more k lt d)
  ]

  -- no call becomes pending
  pub still_open : (k : ℕ) → k < n → IsPending t k → IsPending s k
  still_open k lt pending = elim (either k lt) [
    | inl e ↦ omega (arith, pending, e, exchanged.flips k)
    | inr m ↦ omega (arith, pending, m.1, exchanged.flips k)
  ]

  pub asked_is_given : (k : ℕ) → k < n → (k ≡ p) ⊎ IsNewer s k → ¬ IsPending t k
  asked_is_given k lt asked pending =
      let differs = given n s counted p own Looking j lost h refl all k lt (still_open k lt pending) asked in
      omega (arith, pending, counted.one_open k lt, exchanged.one_more k lt differs, exchanged.flips k)

  pub exchanged_counts : ((k : ℕ) → k < n → IsBit (own k)) → IsCounted n t
  exchanged_counts bits = record {
    begun = λ k lt. elim (either k lt) [
      | inl e ↦ omega (arith, e, exchanged.flips k, counted.begun k lt)
      | inr m ↦ (let pending = made_pending n s counted p own Looking j lost h refl k lt m.0 in omega (arith, pending, m.1, exchanged.flips k))
    ];
    one_open = λ k lt. elim (either k lt) [
      | inl e ↦ omega (arith, e, exchanged.flips k, counted.one_open k lt)
      | inr m ↦ omega (arith, m.1, exchanged.flips k, counted.one_open k lt)
    ];
    root = λ k lt. exchanged.root k lt ∙ elim (cases_words (own k) (s.root k)) [
      | inl e ↦ e ∙ counted.root k lt ∙ ap (λ (m : ℕ). pos (m % 2)) (sym (exchanged.stays k lt e))
      | inr d ↦ turned (own k) (s.applied k) (bits k lt) (λ e. d (e ∙ sym (counted.root k lt))) ∙ ap (λ (m : ℕ). pos (m % 2)) (sym (exchanged.one_more k lt d))
    ];
    announced = λ k lt. exchanged.announced k ∙ counted.announced k lt ∙ ap (λ (m : ℕ). pos (m % 2)) (sym (exchanged.flips k));
  }

  -- another process has lost its link by it
  pub exchanged_helping : (q : ℕ) → q < n → (linked : Bool) (own' own'' : ℕ → ℤ) (phase : Phase) (j' lost' after : ℕ) → IsHelping n s q linked own' phase j' lost' → ((k : ℕ) → own'' k ≡ own' k) → after ≤ lost' + 1 → IsHelping n t q false own'' phase j' after
  exchanged_helping q lt linked own' own'' phase j' lost' after helping kept most = record {
    settled = λ e pending. helping.settled e (still_open q lt pending);
    own_toggles = λ e l. absurd (false≢true l);
    wanted_help = λ e l. absurd (false≢true l);
    own_helped = λ e l. absurd (false≢true l);
    older_helped = λ e l. absurd (false≢true l);
    found_applied = λ e f pending. helping.found_applied e (sym (kept q) ∙ f ∙ exchanged.announced q) (still_open q lt pending);
    own_open = λ e l. absurd (false≢true l);
    lost_one = λ _. exchanged.newer q lt;
    lost_two = λ more. asked_is_given q lt (inr (helping.lost_one (omega (arith, most, more))));
  }

  -- its own call is in the order
  pub exchanger_settles : p < n → ¬ IsPending t p
  exchanger_settles lt = asked_is_given p lt (inl refl)
