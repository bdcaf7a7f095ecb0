-- What a set's keys are after an insertion, by what the keys stand for.
use Rattle.std.proofs.Common.{◌≡◌, refl, sym, ap, ◌∙◌, subst, ℕ, zero, suc, Bool, true, false, ◌||◌, List, [], ◌∷◌, ◌++◌, map, All, Some, ◌⊎◌, inl, inr, ◌↔◌, if◌then◌else◌}
use Rattle.std.proofs.lemmas.List.Elements.{All-head, All-tail, All-push}
use Rattle.std.proofs.lemmas.Option.{same_Some}
use Rattle.std.specs.List.{slice_get, list_any}
use Rattle.indexmap.specs.IndexSet.{insert_key}

-- it stands somewhere
abbrev pub IsIn : {V : Type 0} → List V → V → Type 0
IsIn vs v = (k : ℕ) × (slice_get vs k ≡ Some v)

true≢false : true ≡ false → ⊥
true≢false e = cc

-- keys for which `==` says whether they stand for the same
module _ {K V : Type 0} (eq : K → K → Bool) (view : K → V) (Good : K → Type 0) (exact : (a b : K) → Good a → Good b → (eq a b ≡ true) ↔ (view a ≡ view b)) where
  has_it : (keys : List K) (x : K) → All Good keys → Good x → list_any (eq x) keys ≡ true → IsIn (map view keys) (view x)
  has_it [] x good is h = absurd (cc)
  has_it (y ∷ keys) x good is h =
      by (eq x y) refl (λ e. has_it keys x (All-tail Good y keys good) is (sym (ap (λ (b : Bool). b || list_any (eq x) keys) e) ∙ h))
    where
      by : (b : Bool) → eq x y ≡ b → (eq x y ≡ false → IsIn (map view keys) (view x)) → IsIn (map view (y ∷ keys)) (view x)
      by true e later = (0, ap Some (sym ((exact x y is (All-head Good y keys good)).0 e)))
      by false e later = let r = later e in (suc r.0, r.1)

  has_not : (keys : List K) (x : K) → All Good keys → Good x → list_any (eq x) keys ≡ false → (k : ℕ) → slice_get (map view keys) k ≡ Some (view x) → ⊥
  has_not [] x good is h k at = absurd (cc)
  has_not (y ∷ keys) x good is h zero at =
      let same : view y ≡ view x = same_Some (view y) (view x) at in
      let equal = (exact x y is (All-head Good y keys good)).1 (sym same) in
      true≢false (sym (ap (λ (b : Bool). b || list_any (eq x) keys) equal) ∙ h)
  has_not (y ∷ keys) x good is h (suc k) at =
      by (eq x y) refl (λ differ. has_not keys x (All-tail Good y keys good) is (sym (ap (λ (b : Bool). b || list_any (eq x) keys) differ) ∙ h) k at)
    where
      by : (b : Bool) → eq x y ≡ b → (eq x y ≡ false → ⊥) → ⊥
      by true equal later = true≢false (sym (ap (λ (b : Bool). b || list_any (eq x) keys) equal) ∙ h)
      by false differ later = later differ

  module _ (keys : List K) (x : K) (good : All Good keys) (is : Good x) (after : List K) (inserted : after ≡ insert_key eq keys x) where
    -- it was there already, or it is one more
    pub arrived : ((list_any (eq x) keys ≡ true) × IsIn (map view keys) (view x) × (after ≡ keys)) ⊎
        ((list_any (eq x) keys ≡ false) × ((k : ℕ) → slice_get (map view keys) k ≡ Some (view x) → ⊥) × (after ≡ keys ++ x ∷ []))
    arrived = by (list_any (eq x) keys) refl
      where
        by : (b : Bool) → list_any (eq x) keys ≡ b → ((list_any (eq x) keys ≡ true) × IsIn (map view keys) (view x) × (after ≡ keys)) ⊎
            ((list_any (eq x) keys ≡ false) × ((k : ℕ) → slice_get (map view keys) k ≡ Some (view x) → ⊥) × (after ≡ keys ++ x ∷ []))
        by true old = inl (old, has_it keys x good is old, inserted ∙ ap (λ (b : Bool). if b then keys else keys ++ x ∷ []) old)
        by false new = inr (new, has_not keys x good is new, inserted ∙ ap (λ (b : Bool). if b then keys else keys ++ x ∷ []) new)

    pub still_good : All Good after
    still_good = elim arrived [
      | inl old ↦ subst (All Good) (sym old.2) good
      | inr new ↦ subst (All Good) (sym new.2) (All-push Good keys x good is)
    ]
