-- Lists of which each item stands for the item of another list at its place.
use Rattle.std.proofs.Common.{◌≡◌, sym, ap, ◌∙◌, subst, ℕ, ◌+◌, ◌<◌, ◌≤◌, zero, suc, List, [], ◌∷◌, ◌++◌, length, Some, arith, refl, inl, inr}
use Rattle.std.proofs.lemmas.List.{length-append}
use Rattle.std.proofs.lemmas.Option.{slice_get_within}
use Rattle.std.specs.List.{slice_get}
use Rattle.wf_history.proofs.Positions.{place_push, one_item}

pub item_there : {A : Type 0} (xs : List A) (k : ℕ) → k < length xs → (x : A) × (slice_get xs k ≡ Some x)
item_there [] k lt = absurd (omega arith)
item_there (x ∷ xs) zero lt = (x, refl)
item_there (x ∷ xs) (suc k) lt = item_there xs k (omega arith)

-- an item stands for the one at a place
pub record StandsFor {A B : Type 0} (R : A → B → Type 0) (xs : List A) (k : ℕ) (y : B) : Type 0 where
  pub item : A
  pub at : slice_get xs k ≡ Some item
  pub is : R item y

-- so many items, of which each does so
pub record Match {A B : Type 0} (R : A → B → Type 0) (xs : List A) (ys : List B) (bound : ℕ) : Type 0 where
  pub size : length ys ≡ bound
  pub each : (k : ℕ) (y : B) → slice_get ys k ≡ Some y → StandsFor R xs k y

-- the item that stands for the one at a place
pub record Stands {A B : Type 0} (R : A → B → Type 0) (x : A) (ys : List B) (k : ℕ) : Type 0 where
  pub item : B
  pub at : slice_get ys k ≡ Some item
  pub is : R x item

module _ {A B : Type 0} (R : A → B → Type 0) (xs : List A) where
  pub match_none : (ys : List B) → ys ≡ [] → Match R xs ys 0
  match_none ys none = record {
    size = ap length none;
    each = λ k y at. let e : slice_get [] k ≡ Some y = ap (λ (l : List B). slice_get l k) (sym none) ∙ at in absurd (cc);
  }

  module _ (ys : List B) (bound : ℕ) (h : Match R xs ys bound) where
    pub match_more : (x : A) → slice_get xs bound ≡ Some x → (y : B) → R x y → (after : List B) → after ≡ ys ++ y ∷ [] → Match R xs after (bound + 1)
    match_more x at y is after pushed = subst (λ (l : List B). Match R xs l (bound + 1)) (sym pushed) (record {
      size = let size = h.size in let more = length-append ys (y ∷ []) in omega (arith, size, more);
      each = λ k z there. elim (place_push ys y k z there) [
        | inl old ↦ h.each k z old
        | inr now ↦ subst (StandsFor R xs k) now.1 (record { item = x; at = ap (slice_get xs) (now.0 ∙ h.size) ∙ at; is = is })
      ];
    })

    -- all items are gone over
    pub across : length xs ≤ bound → (k : ℕ) (x : A) → slice_get xs k ≡ Some x → Stands R x ys k
    across all k x at =
        let within = slice_get_within xs k x at in
        let size = h.size in
        let y = item_there ys k (omega (arith, within, size, all)) in
        let s = h.each k y.0 y.1 in
        record { item = y.0; at = y.1; is = subst (λ (z : A). R z y.0) (one_item xs k s.item x s.at at) s.is }
