-- What stands in lists, and in lists without repeats.
use Rattle.std.proofs.Common.{◌≡◌, ◌≢◌, ℕ, zero, suc, List, [], ◌∷◌, ◌++◌, ◌⊎◌, set, refl, sym, ap, inl, inr, subst}
use Rattle.std.specs.Prelude.{Some, slice_get, Contains}
use Rattle.std.proofs.lemmas.Bool.{cases_eq}
use Rattle.std.proofs.lemmas.Option.{same_Some}
use Rattle.std.proofs.lemmas.List.Elements.{Contains-append_right}
use Rattle.wf_history.proofs.Positions.{contains_at, place_of, same_call}
use Rattle.wf_history.specs.declared.event.CallId.{CallId}
use Rattle.wf_history.specs.Legal.{NoRepeats}

-- what stands in a list, first or behind
module _ {A : Type 0} (x : A) (xs : List A) (y : A) where
  pub first_or_rest : Contains (x ∷ xs) y → (x ≡ y) ⊎ Contains xs y
  first_or_rest h = let p = place_of (x ∷ xs) y h in at p.0 p.1
    where
      at : (k : ℕ) → slice_get (x ∷ xs) k ≡ Some y → (x ≡ y) ⊎ Contains xs y
      at zero is = inl (same_Some x y is)
      at (suc k) is = inr (contains_at xs k y is)

  pub in_rest : Contains xs y → Contains (x ∷ xs) y
  in_rest h = let p = place_of xs y h in contains_at (x ∷ xs) (suc p.0) y p.1

pub is_first : {A : Type 0} (x : A) (xs : List A) → Contains (x ∷ xs) x
is_first x xs = contains_at (x ∷ xs) 0 x refl

pub in_none : {A : Type 0} (y : A) → Contains [] y → ⊥
in_none y h = let p = place_of [] y h in let e = p.1 in cc

-- a write leaves the other places
pub set_other : {A : Type 0} (xs : List A) (p k : ℕ) (x : A) → k ≢ p → slice_get (set xs p x) k ≡ slice_get xs k
set_other [] p k x d = refl
set_other (a ∷ xs) zero zero x d = absurd (d refl)
set_other (a ∷ xs) zero (suc k) x d = refl
set_other (a ∷ xs) (suc p) zero x d = refl
set_other (a ∷ xs) (suc p) (suc k) x d = set_other xs p k x (λ e. d (ap suc e))

-- two calls are the same or not
pub same_or_not : (a b : CallId) → (a ≡ b) ⊎ (a ≢ b)
same_or_not a b =
    elim (cases_eq a.process b.process) [
      | inl process ↦ elim (cases_eq a.number b.number) [
        | inl number ↦ inl (same_call a b process number)
        | inr other ↦ inr (λ e. other (ap (λ (i : CallId). i.number) e))
      ]
      | inr other ↦ inr (λ e. other (ap (λ (i : CallId). i.process) e))
    ]

-- no call stands in both parts of a list without repeats
pub once_apart : (xs ys : List CallId) (x : CallId) → NoRepeats (xs ++ ys) → Contains xs x → Contains ys x → ⊥
once_apart [] ys x once here there = in_none x here
once_apart (a ∷ xs) ys x once here there =
    elim (first_or_rest a xs x here) [
      | inl same ↦ once.0 (subst (Contains (xs ++ ys)) (sym same) (Contains-append_right xs ys x there))
      | inr later ↦ once_apart xs ys x once.1 later there
    ]

pub once_behind : (xs ys : List CallId) → NoRepeats (xs ++ ys) → NoRepeats ys
once_behind [] ys once = once
once_behind (a ∷ xs) ys once = once_behind xs ys once.1
