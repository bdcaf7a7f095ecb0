-- What a step of one process leaves to the others.
use Rattle.std.proofs.Common.{◌≡◌, ◌≢◌, ℕ, zero, suc, List, [], ◌∷◌, ◌++◌, set, refl, sym, ◌∙◌, ap, inl, inr, subst}
use Rattle.std.specs.Prelude.{Some, slice_get}
use Rattle.std.proofs.lemmas.Option.{same_Some}
use Rattle.std.proofs.lemmas.Bool.{cases_eq}
use Rattle.wf_table.specs.StepTable.{Process}
use Rattle.wf_table.specs.Each.{Each}

slice_get-set_same : {X : Type 0} (xs : List X) (p : ℕ) (x y : X) → slice_get (set xs p x) p ≡ Some y → y ≡ x
slice_get-set_same [] p x y h = absurd (cc)
slice_get-set_same (a ∷ xs) zero x y h = same_Some y x (sym h)
slice_get-set_same (a ∷ xs) (suc p) x y h = slice_get-set_same xs p x y h

slice_get-set_other : {X : Type 0} (xs : List X) (p k : ℕ) (x : X) → k ≢ p → slice_get (set xs p x) k ≡ slice_get xs k
slice_get-set_other [] p k x d = refl
slice_get-set_other (a ∷ xs) zero zero x d = absurd (d refl)
slice_get-set_other (a ∷ xs) zero (suc k) x d = refl
slice_get-set_other (a ∷ xs) (suc p) zero x d = refl
slice_get-set_other (a ∷ xs) (suc p) (suc k) x d = slice_get-set_other xs p k x (λ e. d (ap suc e))

-- a pass: what the stepping process owes, and what the others keep
pub each_after : {Run : Type 0} (P Q : ℕ → Process Run → Type 0) (ps : List (Process Run)) (p : ℕ) (q : Process Run) → Each P ps → Q p q → ((k : ℕ) (o : Process Run) → k ≢ p → P k o → Q k o) → Each Q (set ps p q)
each_after {Run} P Q ps p q each own others k o h =
    elim (cases_eq k p) [
      | inl e ↦ (let at : slice_get (set ps p q) p ≡ Some o = rw e at h in let same : o ≡ q = slice_get-set_same ps p q o at in subst (λ (n : ℕ). Q n o) (sym e) (subst (λ (x : Process Run). Q p x) (sym same) own))
      | inr d ↦ others k o d (each k o (sym (slice_get-set_other ps p k q d) ∙ h))
    ]

pub each_push : {Run : Type 0} (P : Process Run → Type 0) (ps : List (Process Run)) (x : Process Run) → Each (λ _ q. P q) ps → P x → Each (λ _ q. P q) (ps ++ x ∷ [])
each_push P [] x h own zero q e = subst P (same_Some x q e) own
each_push P [] x h own (suc p) q e = absurd (cc)
each_push P (a ∷ ps) x h own zero q e = h zero q e
each_push P (a ∷ ps) x h own (suc p) q e = each_push P ps x (λ k o r. h (suc k) o r) own p q e
