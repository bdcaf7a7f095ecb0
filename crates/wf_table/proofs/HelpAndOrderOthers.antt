-- What a step of process p leaves to another process q.
use Rattle.std.proofs.Common.{◌≡◌, ◌≢◌, ℕ, ◌<◌, Bool, true, sym, ◌∙◌, arith, inl, inr, subst}
use Rattle.std.specs.Prelude.{ℤ}
use Rattle.std.proofs.lemmas.Bool.{cases_eq}
use Rattle.wf_table.specs.Helping.{Standing, IsPending, IsNewer, IsCounted, Phase, Serving, IsHelping}
use Rattle.wf_table.proofs.Changes.{IsSame, IsFlipped}
use Rattle.wf_table.proofs.Seen.{served_pending}

module _ (n : ℕ) (s t : Standing) (p : ℕ) (linked : Bool) (own : ℕ → ℤ) (phase : Phase) (j lost : ℕ) (h : IsHelping n s p linked own phase j lost) where
  -- all that it reads stays
  pub same_helping : (own' : ℕ → ℤ) → IsSame s t → ((k : ℕ) → own' k ≡ own k) → IsHelping n t p linked own' phase j lost
  same_helping own' same kept =
      let pends : (k : ℕ) → IsPending s k → IsPending t k = λ k pending. omega (arith, pending, same.applied k, same.flips k) in
      let pended : (k : ℕ) → IsPending t k → IsPending s k = λ k pending. omega (arith, pending, same.applied k, same.flips k) in
      let newer : (k : ℕ) → IsNewer t k → IsNewer s k = λ k late. omega (arith, late, same.flip_mark k, same.root_mark) in
      record {
        settled = λ e pending. h.settled e (pended p pending);
        own_toggles = λ e l k lt. elim (h.own_toggles e l k lt) [
          | inl equal ↦ inl (kept k ∙ equal ∙ sym (same.root k))
          | inr made ↦ inr (made.0, pends k made.1)
        ];
        wanted_help = λ e l f. h.wanted_help e l (sym (kept j) ∙ f ∙ same.announced j);
        own_helped = λ e l lt. kept p ∙ h.own_helped e l lt ∙ sym (same.announced p);
        older_helped = λ e l k lt late. kept k ∙ h.older_helped e l k lt (newer k late) ∙ sym (same.announced k);
        found_applied = λ e f pending. h.found_applied e (sym (kept p) ∙ f ∙ same.announced p) (pended p pending);
        own_open = λ e l. pends p (h.own_open e l);
        lost_one = λ lt. omega (arith, h.lost_one lt, same.flip_mark p, same.root_mark);
        lost_two = λ lt pending. h.lost_two lt (pended p pending);
      }

  -- another process flips, which was not pending
  pub flipped_helping : IsCounted n s → (q : ℕ) → q ≢ p → (phase ≡ Serving → j < n) → ¬ IsPending s q → IsFlipped q s t → IsHelping n t p linked own phase j lost
  flipped_helping counted q other within settled flips =
      let pends : (k : ℕ) → IsPending s k → IsPending t k = λ k pending. (let apart : k ≢ q = λ e. settled (subst (IsPending s) e pending) in omega (arith, pending, flips.applied k, flips.flips k apart)) in
      let apart : p ≢ q = λ e. other (sym e) in
      let pended : IsPending t p → IsPending s p = λ pending. omega (arith, pending, flips.applied p, flips.flips p apart) in
      record {
        settled = λ e pending. h.settled e (pended pending);
        own_toggles = λ e l k lt. elim (h.own_toggles e l k lt) [
          | inl equal ↦ inl (equal ∙ sym (flips.root k))
          | inr made ↦ inr (made.0, pends k made.1)
        ];
        wanted_help = λ e l f. (let linked_in : IsHelping n s p true own phase j lost = subst (λ (b : Bool). IsHelping n s p b own phase j lost) l h in
            let pending = served_pending n s counted p own phase j lost linked_in e (within e) in
            h.wanted_help e l (f ∙ flips.announced j (λ same. settled (subst (IsPending s) same pending))));
        own_helped = λ e l lt. h.own_helped e l lt ∙ sym (flips.announced p apart);
        older_helped = λ e l k lt late. elim (cases_eq k q) [
          | inl is ↦ absurd (omega (arith, flips.latest, subst (IsNewer t) is late))
          | inr d ↦ h.older_helped e l k lt (omega (arith, late, flips.flip_mark k d, flips.root_mark)) ∙ sym (flips.announced k d)
        ];
        found_applied = λ e f pending. h.found_applied e (f ∙ flips.announced p apart) (pended pending);
        own_open = λ e l. pends p (h.own_open e l);
        lost_one = λ lt. omega (arith, h.lost_one lt, flips.flip_mark p apart, flips.root_mark);
        lost_two = λ lt pending. h.lost_two lt (pended pending);
      }
