-- Lists of the values of a function of the index.
use Rattle.std.proofs.Common.{◌≡◌, ◌≢◌, ℕ, ◌<◌, ◌≤◌, List, length, set, get_or, take, replicate, sym, ◌∙◌, arith, zero-add}
use Rattle.std.proofs.lemmas.List.{ext_get_or, length-set, get_or-set_same, get_or-set_other, length-replicate, get_or-replicate}
use Rattle.std.proofs.lemmas.List.FromFn.{length-map-range_with_len, get_or-map-range_with_len, take-map-range_with_len}
use Rattle.std.proofs.lemmas.Bool.{cases_eq}
use Rattle.std.proofs.Common.{inl, inr, subst}
use Rattle.ll_cell.specs.Rows.{listed}

module _ {X : Type 0} (n : ℕ) (f : ℕ → X) where
  pub length_listed : length (listed n f) ≡ n
  length_listed = length-map-range_with_len f 0 n

  pub listed_at : (i : ℕ) (d : X) → i < n → get_or (listed n f) i d ≡ f i
  listed_at i d lt = get_or-map-range_with_len f 0 n i i d lt (zero-add i)

-- a list is that of a function that gives each element
pub is_listed : {X : Type 0} (d : X) (n : ℕ) (f : ℕ → X) (xs : List X) → length xs ≡ n → ((i : ℕ) → i < n → f i ≡ get_or xs i d) → listed n f ≡ xs
is_listed d n f xs long same =
    ext_get_or d (listed n f) xs (length_listed n f ∙ sym long)
    (λ i lt. let within : i < n = omega (arith, lt, length_listed n f) in listed_at n f i d within ∙ same i within)

pub listed_same : {X : Type 0} (d : X) (n : ℕ) (f g : ℕ → X) → ((i : ℕ) → i < n → f i ≡ g i) → listed n f ≡ listed n g
listed_same d n f g same = is_listed d n f (listed n g) (length_listed n g) (λ i lt. same i lt ∙ sym (listed_at n g i d lt))

pub listed_set : {X : Type 0} (d : X) (n k : ℕ) (f : ℕ → X) (v : X) (xs : List X) → length xs ≡ n → k < n → f k ≡ v → ((i : ℕ) → i < n → i ≢ k → f i ≡ get_or xs i d) → listed n f ≡ set xs k v
listed_set d n k f v xs long within here others =
    is_listed d n f (set xs k v) (length-set xs k v ∙ long)
    (λ i lt. elim (cases_eq i k) [
      | inl same ↦ subst (λ (j : ℕ). f j ≡ get_or (set xs k v) j d) (sym same) (here ∙ sym (get_or-set_same xs k v d (omega (arith, within, long))))
      | inr other ↦ others i lt other ∙ sym (get_or-set_other xs k i v d other)
    ])

pub listed_replicate : {X : Type 0} (n : ℕ) (f : ℕ → X) (x : X) → ((i : ℕ) → i < n → f i ≡ x) → listed n f ≡ replicate n x
listed_replicate n f x same = is_listed x n f (replicate n x) (length-replicate n x) (λ i lt. same i lt ∙ sym (get_or-replicate n i x x lt))

pub take_listed : {X : Type 0} (n k : ℕ) (f : ℕ → X) → k ≤ n → take k (listed n f) ≡ listed k f
take_listed n k f le = take-map-range_with_len f 0 n k le
