-- Values that are overwritten one after the other.
use Rattle.std.proofs.Common.{◌≡◌, List, [], ◌∷◌, ap, subst, ◌∙◌, ℕ, zero, suc, set, get_or, take, length, ◌+◌, ◌<◌, arith}
use Rattle.ob_store.specs.declared.value.Value.{Value}
use Rattle.ob_store.specs.View.{value_in, values_in}
use Rattle.ob_meaning.specs.ByPositionValue as Values

-- one more of them is equal to the one at its place
pub same_more : (ts vs : List Value) (k : ℕ) (w v : Value) → k < length ts → k < length vs → v ≡ get_or vs k v → value_in w ≡ value_in v →
    values_in (take k ts) ≡ values_in (take k vs) → values_in (take (k + 1) (set ts k w)) ≡ values_in (take (k + 1) vs)
same_more [] vs k w v h g at e before = absurd (omega (arith, h))
same_more (t ∷ ts) [] k w v h g at e before = absurd (omega (arith, g))
same_more (t ∷ ts) (u ∷ vs) zero w v h g at e before =
    ap (λ x. Values.part x Values.no_part) (e ∙ ap value_in at)
same_more (t ∷ ts) (u ∷ vs) (suc k) w v h g at e before =
    let first : value_in t ≡ value_in u = cc in
    let others : values_in (take k ts) ≡ values_in (take k vs) = cc in
    let more = same_more ts vs k w v (omega (arith, h)) (omega (arith, g)) at e others in
    let next : suc (k + 1) ≡ suc k + 1 = omega arith in
    subst (λ n. values_in (take n (set (t ∷ ts) (suc k) w)) ≡ values_in (take n (u ∷ vs))) next
    (ap (λ x. Values.part x (values_in (take (k + 1) (set ts k w)))) first ∙ ap (Values.part (value_in u)) more)

-- one more of them is the same value
pub copies_over_more : (ts : List Value) (k : ℕ) (w : Value) (v : Values.Value) → k < length ts → value_in w ≡ v →
    values_in (take k ts) ≡ Values.copies k v → values_in (take (k + 1) (set ts k w)) ≡ Values.copies (k + 1) v
copies_over_more [] k w v h e before = absurd (omega (arith, h))
copies_over_more (t ∷ ts) zero w v h e before = ap (λ x. Values.part x Values.no_part) e
copies_over_more (t ∷ ts) (suc k) w v h e before =
    let first : value_in t ≡ v = cc in
    let others : values_in (take k ts) ≡ Values.copies k v = cc in
    let more = copies_over_more ts k w v (omega (arith, h)) e others in
    let next : suc (k + 1) ≡ suc k + 1 = omega arith in
    subst (λ n. values_in (take n (set (t ∷ ts) (suc k) w)) ≡ Values.copies n v) next
    (ap (λ x. Values.part x (values_in (take (k + 1) (set ts k w)))) first ∙ ap (Values.part v) more)

-- how many parts are within a value, and within some
abbrev mutual
  pub size : Values.Value → ℕ
  size (Values.Single s) = 0
  size (Values.Parts vs) = suc (size_of_all vs)

  pub size_of_all : Values.Values → ℕ
  size_of_all Values.no_part = 0
  size_of_all (Values.part v vs) = suc (size v + size_of_all vs)

pub size_at : (vs : List Value) (i : ℕ) (v : Value) → i < length vs → v ≡ get_or vs i v → size (value_in v) < size_of_all (values_in vs)
size_at [] i v h at = absurd (omega (arith, h))
size_at (u ∷ vs) zero v h at = let same : size (value_in v) ≡ size (value_in u) = ap (λ x. size (value_in x)) at in omega (arith, same)
size_at (u ∷ vs) (suc i) v h at = let rest = size_at vs i v (omega (arith, h)) at in omega (arith, rest)
