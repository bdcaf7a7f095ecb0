-- What a step of a process leaves to itself, where the standing stays.
use Rattle.std.proofs.Common.{◌≡◌, ◌≢◌, ℕ, ◌+◌, ◌<◌, Bool, true, refl, sym, ◌∙◌, arith, inl, inr, subst}
use Rattle.std.specs.Prelude.{ℤ}
use Rattle.std.proofs.lemmas.Bool.{cases_eq, false≢true}
use Rattle.wf_table.specs.Helping.{Standing, IsPending, IsNewer, IsCounted, Settled, Trying, Asking, Looking, Serving, IsHelping}
use Rattle.wf_table.proofs.Seen.{served_pending, pending_differs, differs_pending}

-- no call is pending
pub settles : (n : ℕ) (s : Standing) (p : ℕ) (linked : Bool) (own : ℕ → ℤ) (j : ℕ) → ¬ IsPending s p → IsHelping n s p linked own Settled j 0
settles n s p linked own j none = record {
  settled = λ _. none;
  own_toggles = λ e. absurd (false≢true e);
  wanted_help = λ e. absurd (cc);
  own_helped = λ e. absurd (false≢true e);
  older_helped = λ e. absurd (false≢true e);
  found_applied = λ e. absurd (cc);
  own_open = λ e. absurd (false≢true e);
  lost_one = λ lt. absurd (omega (arith, lt));
  lost_two = λ lt. absurd (omega (arith, lt));
}

-- before a whole copy
pub tries : (n : ℕ) (s : Standing) (p : ℕ) (linked : Bool) (own : ℕ → ℤ) (j lost : ℕ) → (0 < lost → IsNewer s p) → (1 < lost → ¬ IsPending s p) → IsHelping n s p linked own Trying j lost
tries n s p linked own j lost one two = record {
  settled = λ e. absurd (cc);
  own_toggles = λ e. absurd (false≢true e);
  wanted_help = λ e. absurd (cc);
  own_helped = λ e. absurd (false≢true e);
  older_helped = λ e. absurd (false≢true e);
  found_applied = λ e. absurd (cc);
  own_open = λ e. absurd (false≢true e);
  lost_one = one;
  lost_two = two;
}

module _ (n : ℕ) (s : Standing) (counted : IsCounted n s) (p : ℕ) (j lost : ℕ) where
  -- the copy is whole, and has the toggles of the root
  pub asks : (own : ℕ → ℤ) → p < n → IsHelping n s p true own Trying j lost → ((k : ℕ) → k < n → own k ≡ s.root k) → IsHelping n s p true own Asking j lost
  asks own within h whole = record {
    settled = λ e. absurd (cc);
    own_toggles = λ e l k lt. inl (whole k lt);
    wanted_help = λ e. absurd (cc);
    own_helped = λ e l lt. absurd (omega (arith, lt));
    older_helped = λ e l k lt. absurd (omega (arith, lt));
    found_applied = λ e f pending. pending_differs n s counted p within pending (sym (whole p within) ∙ f);
    own_open = λ e. absurd (false≢true e);
    lost_one = h.lost_one;
    lost_two = h.lost_two;
  }

  -- the own call is not yet made: the others come next, from the first one on
  pub looks : (linked : Bool) (own : ℕ → ℤ) → p < n → IsHelping n s p linked own Asking j lost → own p ≢ s.announced p → IsHelping n s p linked own Looking 0 lost
  looks linked own within h asked = record {
    settled = λ e. absurd (cc);
    own_toggles = λ e l k lt. h.own_toggles refl l k lt;
    wanted_help = λ e. absurd (cc);
    own_helped = λ e l lt. absurd (omega (arith, lt));
    older_helped = λ e l k lt. absurd (omega (arith, lt));
    found_applied = λ e. absurd (cc);
    own_open = λ e l. elim (h.own_toggles refl l p within) [
      | inl same ↦ differs_pending n s counted p within (λ e. asked (same ∙ e))
      | inr made ↦ made.1
    ];
    lost_one = h.lost_one;
    lost_two = h.lost_two;
  }

  -- process j has no call that is not made in the own block
  pub passes : (linked : Bool) (own : ℕ → ℤ) → IsHelping n s p linked own Looking j lost → own j ≡ s.announced j → IsHelping n s p linked own Looking (j + 1) lost
  passes linked own h made = record {
    settled = λ e. absurd (cc);
    own_toggles = λ e l k lt. elim (h.own_toggles refl l k lt) [
      | inl same ↦ inl same
      | inr served ↦ inr (omega (arith, served.0), served.1)
    ];
    wanted_help = λ e. absurd (cc);
    own_helped = λ e l lt. elim (cases_eq p j) [
      | inl is ↦ rw is made
      | inr d ↦ h.own_helped refl l (omega (arith, lt, d))
    ];
    older_helped = λ e l k lt late. elim (cases_eq k j) [
      | inl is ↦ rw is made
      | inr d ↦ h.older_helped refl l k (omega (arith, lt, d)) late
    ];
    found_applied = λ e. absurd (cc);
    own_open = λ e l. h.own_open refl l;
    lost_one = h.lost_one;
    lost_two = h.lost_two;
  }

  -- process j has one
  pub serves : (linked : Bool) (own : ℕ → ℤ) → IsHelping n s p linked own Looking j lost → own j ≢ s.announced j → IsHelping n s p linked own Serving j lost
  serves linked own h wanted = record {
    settled = λ e. absurd (cc);
    own_toggles = λ e l k lt. h.own_toggles refl l k lt;
    wanted_help = λ e l. wanted;
    own_helped = λ e l lt. h.own_helped refl l lt;
    older_helped = λ e l k lt late. h.older_helped refl l k lt late;
    found_applied = λ e. absurd (cc);
    own_open = λ e l. h.own_open refl l;
    lost_one = h.lost_one;
    lost_two = h.lost_two;
  }

  -- the call of process j is made, and its toggle in the own block inverted
  pub makes : (linked : Bool) (own own' : ℕ → ℤ) → j < n → IsHelping n s p linked own Serving j lost → ((k : ℕ) → k ≢ j → own' k ≡ own k) → (linked ≡ true → own' j ≡ s.announced j) → IsHelping n s p linked own' Looking (j + 1) lost
  makes linked own own' within h kept made = record {
    settled = λ e. absurd (cc);
    own_toggles = λ e l k lt. elim (cases_eq k j) [
      | inl is ↦ inr (omega (arith, is), subst (IsPending s) (sym is) (served_pending n s counted p own Serving j lost (subst (λ (b : Bool). IsHelping n s p b own Serving j lost) l h) refl within))
      | inr d ↦ elim (h.own_toggles refl l k lt) [
        | inl same ↦ inl (kept k d ∙ same)
        | inr served ↦ inr (omega (arith, served.0), served.1)
      ]
    ];
    wanted_help = λ e. absurd (cc);
    own_helped = λ e l lt. elim (cases_eq p j) [
      | inl is ↦ rw is (made l)
      | inr d ↦ kept p d ∙ h.own_helped refl l (omega (arith, lt, d))
    ];
    older_helped = λ e l k lt late. elim (cases_eq k j) [
      | inl is ↦ rw is (made l)
      | inr d ↦ kept k d ∙ h.older_helped refl l k (omega (arith, lt, d)) late
    ];
    found_applied = λ e. absurd (cc);
    own_open = λ e l. h.own_open refl l;
    lost_one = h.lost_one;
    lost_two = h.lost_two;
  }
