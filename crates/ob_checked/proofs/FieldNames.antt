-- The fields of a record by name.
use Rattle.std.proofs.Common.{◌≡◌, ℕ, zero, suc, ◌+◌, ◌<◌, ◌≤◌, Bool, true, false, List, [], ◌∷◌, ◌++◌, length, get_or, Some, None, option_map, refl, ap, sym, ◌∙◌, arith, String}
use Rattle.std.specs.Prelude.{bytes_eq, if◌then◌else◌, string_bytes}
use Rattle.std.specs.BTreeMap.{BTreeMap, UpdatesBy, IsEmpty, get_by_text, is_at}
use Rattle.std.specs.Cmp.Lexicographic.{slice_cmp}
use Rattle.std.specs.Ordering.{nat_cmp}
use Rattle.std.specs.Map.{lookup}
use Rattle.std.specs.String.{string_cmp}
use Rattle.std.specs.declared.alloc.Global.{Global}
use Rattle.std.proofs.lemmas.Map.Text.{btree_map_updates_text}
use Rattle.std.proofs.lemmas.Slice.Eq.{bytes_eq-Decides}
use Rattle.ob_checked.specs.declared.types.DataType.{DataType}
use Rattle.ob_checked.specs.Fields.{found_from, position_from}

abbrev Entries : Type 0
Entries = List (String Global × DataType)

-- a field is not found before those that are passed
passed : (n : ℕ) (fs : Entries) (name : List ℕ) (p : ℕ) → Some p ≡ position_from n fs name → n ≤ p
passed n [] name p h = absurd cc
passed n (f ∷ fs) name p h = at (bytes_eq (string_bytes f.0) name) (passed (n + 1) fs name p) h
  where
    at : (b : Bool) → (Some p ≡ position_from (n + 1) fs name → n + 1 ≤ p) →
        Some p ≡ option_map (λ (x : ℕ × DataType). x.0) (if b then Some (n, f.1) else found_from (n + 1) fs name) → n ≤ p
    at true rest k = let is : p ≡ n = cc in omega (arith, is)
    at false rest k = omega (arith, rest k)

-- the field at the position that was found
pub found_at : (n : ℕ) (fs : Entries) (name : List ℕ) (i : ℕ) (f : String Global × DataType) → Some (n + i) ≡ position_from n fs name →
    f ≡ get_or fs i f → Some (n + i, f.1) ≡ found_from n fs name
found_at n [] name i f h is = absurd cc
found_at n (g ∷ fs) name zero f h is = at (bytes_eq (string_bytes g.0) name) h
  where
    at : (b : Bool) → Some (n + 0) ≡ option_map (λ (x : ℕ × DataType). x.0) (if b then Some (n, g.1) else found_from (n + 1) fs name) →
        Some (n + 0, f.1) ≡ (if b then Some (n, g.1) else found_from (n + 1) fs name)
    at true k =
        let here : n + 0 ≡ n = omega arith in
        ap (λ m. Some (m, f.1)) here ∙ ap (λ (x : String Global × DataType). Some (n, x.1)) is
    at false k = absurd (omega (arith, passed (n + 1) fs name (n + 0) k))
found_at n (g ∷ fs) name (suc i) f h is = at (bytes_eq (string_bytes g.0) name) (λ k. found_at (n + 1) fs name i f k is) h
  where
    next : n + suc i ≡ (n + 1) + i
    next = omega arith

    at : (b : Bool) → (Some ((n + 1) + i) ≡ position_from (n + 1) fs name → Some ((n + 1) + i, f.1) ≡ found_from (n + 1) fs name) →
        Some (n + suc i) ≡ option_map (λ (x : ℕ × DataType). x.0) (if b then Some (n, g.1) else found_from (n + 1) fs name) →
        Some (n + suc i, f.1) ≡ (if b then Some (n, g.1) else found_from (n + 1) fs name)
    at true rest k =
        let same : n + suc i ≡ n = cc in
        absurd (omega (arith, same))
    at false rest k = ap (λ m. Some (m, f.1)) next ∙ rest (ap (λ m. Some m) (sym next) ∙ k)

-- it is one of them
pub found_within : (n : ℕ) (fs : Entries) (name : List ℕ) (i : ℕ) → Some (n + i) ≡ position_from n fs name → i < length fs
found_within n [] name i h = absurd cc
found_within n (g ∷ fs) name zero h = omega arith
found_within n (g ∷ fs) name (suc i) h = at (bytes_eq (string_bytes g.0) name) (found_within (n + 1) fs name i) h
  where
    next : n + suc i ≡ (n + 1) + i
    next = omega arith

    at : (b : Bool) → (Some ((n + 1) + i) ≡ position_from (n + 1) fs name → i < length fs) →
        Some (n + suc i) ≡ option_map (λ (x : ℕ × DataType). x.0) (if b then Some (n, g.1) else found_from (n + 1) fs name) → suc i < suc (length fs)
    at true rest k =
        let same : n + suc i ≡ n = cc in
        absurd (omega (arith, same))
    at false rest k = let less : i < length fs = rest (ap (λ m. Some m) (sym next) ∙ k) in omega (arith, less)

-- one field more, of a new name
module _ (f : String Global × DataType) (q : List ℕ) where
  abbrev new : List ℕ
  new = string_bytes f.0

  pub position-push : (n : ℕ) (fs : Entries) → found_from n fs new ≡ None →
      position_from n (fs ++ f ∷ []) q ≡ (if bytes_eq new q then Some (n + length fs) else position_from n fs q)
  position-push n [] free = at (bytes_eq new q)
    where
      here : n ≡ n + 0
      here = omega arith

      at : (b : Bool) → option_map (λ (x : ℕ × DataType). x.0) (if b then Some (n, f.1) else None) ≡ (if b then Some (n + 0) else None)
      at true = ap (λ m. Some m) here
      at false = refl
  position-push n (g ∷ fs) free = at (bytes_eq (string_bytes g.0) q) refl (position-push (n + 1) fs apart.1)
    where
      other : (b : Bool) → (if b then Some (n, g.1) else found_from (n + 1) fs new) ≡ None → (b ≡ false) × (found_from (n + 1) fs new ≡ None)
      other true k = absurd cc
      other false k = (refl, k)

      apart : (bytes_eq (string_bytes g.0) new ≡ false) × (found_from (n + 1) fs new ≡ None)
      apart = other (bytes_eq (string_bytes g.0) new) free

      next : (n + 1) + length fs ≡ n + suc (length fs)
      next = omega arith

      differs : string_bytes g.0 ≡ q → bytes_eq new q ≡ false
      differs is = no (bytes_eq new q) refl
        where
          no : (b : Bool) → bytes_eq new q ≡ b → b ≡ false
          no true k =
              let same : new ≡ q = (bytes_eq-Decides new q).0 k in
              let equal : bytes_eq (string_bytes g.0) new ≡ true = (bytes_eq-Decides (string_bytes g.0) new).1 (is ∙ sym same) in
              absurd cc
          no false k = refl

      at : (b : Bool) → bytes_eq (string_bytes g.0) q ≡ b →
          position_from (n + 1) (fs ++ f ∷ []) q ≡ (if bytes_eq new q then Some ((n + 1) + length fs) else position_from (n + 1) fs q) →
          position_from n (g ∷ fs ++ f ∷ []) q ≡ (if bytes_eq new q then Some (n + suc (length fs)) else position_from n (g ∷ fs) q)
      at true k rest =
          rw (k, differs ((bytes_eq-Decides (string_bytes g.0) q).0 k)) refl
      at false k rest =
          rw k (rest ∙ ap (λ m. if bytes_eq new q then Some m else position_from (n + 1) fs q) next)

module _ (m n : BTreeMap (String Global) ℕ) (fs : Entries) (key : String Global) (f : String Global × DataType) (is : string_bytes key ≡ string_bytes f.0) (at : ℕ) (last : at ≡ length fs) where
  -- where each name stands, with one more
  pub indexed-push : ((q : List ℕ) → get_by_text m q ≡ position_from 0 fs q) → found_from 0 fs (string_bytes f.0) ≡ None →
      UpdatesBy string_cmp (λ k. slice_cmp nat_cmp (string_bytes key) (string_bytes k)) m n (Some at) → (q : List ℕ) → get_by_text n q ≡ position_from 0 (fs ++ f ∷ []) q
  indexed-push known free updated q =
      let count : at ≡ 0 + length fs = omega (arith, last) in
      btree_map_updates_text (string_bytes key) m n (Some at) updated q
      ∙ ap (λ o. if bytes_eq (string_bytes key) q then Some at else o) (known q)
      ∙ ap (λ k. if bytes_eq k q then Some at else position_from 0 fs q) is
      ∙ ap (λ l. if bytes_eq (string_bytes f.0) q then Some l else position_from 0 fs q) count
      ∙ sym (position-push f q 0 fs free)

pub zero_plus : (n : ℕ) → 0 + n ≡ n
zero_plus n = omega arith

pub indexed-empty : (m : BTreeMap (String Global) ℕ) → IsEmpty m → (q : List ℕ) → get_by_text m q ≡ None
indexed-empty m e q = ap (λ es. lookup (is_at (λ k. slice_cmp nat_cmp q (string_bytes k))) es) e
