-- Values that variables begin as.
use Rattle.std.proofs.Common.{◌≡◌, refl, ap, sym, subst, ◌∙◌, arith, ℕ, zero, suc, ◌+◌, ◌<◌, ◌≤◌, List, [], ◌∷◌, ◌++◌, length, take, Some, None, Bool, true, false, Vec, String, ltb-true}
use Rattle.std.specs.Prelude.{◌&&◌, slice_get, max}
use Rattle.std.specs.declared.alloc.Global.{Global}
use Rattle.ob_store.specs.declared.value.Value.{Value}
use Rattle.ob_store.specs.declared.value.Value.TheVariants as Variants
use Rattle.ob_store.specs.View.{value_in, values_in}
use Rattle.ob_store.proofs.Parts.{value_in-parts}
use Rattle.ob_typing.specs.Program
use Rattle.ob_meaning.specs.ByPositionValue as Values
use Rattle.ob_checked.specs.declared.types.DataType.{DataType}
use Rattle.ob_checked.specs.declared.types.DataType.TheVariants.{Simple, Structured}
use Rattle.ob_checked.specs.declared.types.Structure.TheVariants.{Array}
use Rattle.ob_checked.specs.Types.{Entry, type_by, fields_by, structure_by, entry_by, types_of, type_in, is_below, all_below, is_within, IsTable}
use Rattle.ob_checked.proofs.Numbers.{type_at, type_past}

-- a type consists of those with smaller numbers
abbrev pub rank : DataType → ℕ
rank (Simple t) = 0
rank (Structured n) = suc n

abbrev pub most : List (String Global × DataType) → ℕ
most [] = 0
most (f ∷ fs) = max (rank f.1) (most fs)

and_left : (a b : Bool) → (a && b) ≡ true → a ≡ true
and_left true b h = refl
and_left false b h = absurd cc

and_right : (a b : Bool) → (a && b) ≡ true → b ≡ true
and_right true b h = h
and_right false b h = absurd cc

pub rank_below : (n : ℕ) (t : DataType) → is_below n t ≡ true → rank t ≤ n
rank_below n (Simple t) h = omega arith
rank_below n (Structured k) h = let below : k < n = ltb-true k n h in omega (arith, below)

pub most_below : (n : ℕ) (fs : List (String Global × DataType)) → all_below n fs ≡ true → most fs ≤ n
most_below n [] h = omega arith
most_below n (f ∷ fs) h =
    let first = rank_below n f.1 (and_left (is_below n f.1) (all_below n fs) h) in
    let rest = most_below n fs (and_right (is_below n f.1) (all_below n fs) h) in
    omega (arith, first, rest)

pub rank_at : (fs : List (String Global × DataType)) (i : ℕ) (f : String Global × DataType) → Some f ≡ slice_get fs i → rank f.1 ≤ most fs
rank_at [] i f h = absurd cc
rank_at (g ∷ fs) zero f h = let same : g ≡ f = cc in subst (λ x. rank x.1 ≤ most (g ∷ fs)) same (omega arith)
rank_at (g ∷ fs) (suc i) f h = let rest = rank_at fs i f h in omega (arith, rest)

-- what stands within the entry of a number is of smaller rank
module _ (es : List Entry) (table : IsTable es) (t : DataType) (n : ℕ) (is : t ≡ Structured n) (e : Entry) (at : Some e ≡ slice_get es n) where
  pub element_falls : (size : ℕ) (element : DataType) → e.structure ≡ Array size element → rank element < rank t
  element_falls size element shape =
      let within = (table.entry n e (sym at)).within in
      let below = rank_below n element (sym (ap (is_within n) shape) ∙ within) in
      let here : rank t ≡ suc n = ap rank is in
      omega (arith, below, here)

  pub fields_fall : (fields : List (String Global × DataType)) → is_within n e.structure ≡ all_below n fields → most fields < rank t
  fields_fall fields shape =
      let within = (table.entry n e (sym at)).within in
      let below = most_below n fields (sym shape ∙ within) in
      let here : rank t ≡ suc n = ap rank is in
      omega (arith, below, here)

-- one copy more, behind the others
pub copies_more : (xs : List Value) (x : Value) (n : ℕ) (v : Values.Value) → values_in xs ≡ Values.copies n v → value_in x ≡ v →
    values_in (xs ++ x ∷ []) ≡ Values.copies (n + 1) v
copies_more [] x zero v h e = ap (λ w. Values.part w Values.no_part) e
copies_more (y ∷ xs) x zero v h e = absurd cc
copies_more [] x (suc n) v h e = absurd cc
copies_more (y ∷ xs) x (suc n) v h e =
    let first : value_in y ≡ v = cc in
    let others : values_in xs ≡ Values.copies n v = cc in
    let more = copies_more xs x n v others e in
    let next : suc (n + 1) ≡ suc n + 1 = omega arith in
    ap (λ w. Values.part w (values_in (xs ++ x ∷ []))) first ∙ ap (Values.part v) more ∙ ap (λ k. Values.copies k v) next

-- one field more, behind the others
pub fields_more : (ts : List Program.DataType) (fs : List (String Global × DataType)) (xs : List Value) (x : Value) (i : ℕ) (f : String Global × DataType) →
    Some f ≡ slice_get fs i → values_in xs ≡ Values.initial_fields (fields_by ts (take i fs)) → value_in x ≡ Values.initial (type_by ts f.1) →
    values_in (xs ++ x ∷ []) ≡ Values.initial_fields (fields_by ts (take (i + 1) fs))
fields_more ts [] xs x i f at h e = absurd cc
fields_more ts (g ∷ fs) [] x zero f at h e =
    let same : f ≡ g = cc in
    ap (λ w. Values.part w Values.no_part) (e ∙ ap (λ y. Values.initial (type_by ts y.1)) same)
fields_more ts (g ∷ fs) (y ∷ xs) x zero f at h e = absurd cc
fields_more ts (g ∷ fs) [] x (suc i) f at h e = absurd cc
fields_more ts (g ∷ fs) (y ∷ xs) x (suc i) f at h e =
    let first : value_in y ≡ Values.initial (type_by ts g.1) = cc in
    let others : values_in xs ≡ Values.initial_fields (fields_by ts (take i fs)) = cc in
    let more = fields_more ts fs xs x i f at others e in
    let next : suc (i + 1) ≡ suc i + 1 = omega arith in
    ap (λ w. Values.part w (values_in (xs ++ x ∷ []))) first ∙ ap (Values.part (Values.initial (type_by ts g.1))) more
    ∙ ap (λ k. Values.initial_fields (fields_by ts (take k (g ∷ fs)))) next

past : (es : List Entry) (n : ℕ) → None ≡ slice_get es n → length es ≤ n
past [] n h = omega arith
past (e ∷ es) zero h = absurd cc
past (e ∷ es) (suc n) h = let rest = past es n h in omega (arith, rest)

module _ (es : List Entry) (table : IsTable es) (t : DataType) (n : ℕ) (is : t ≡ Structured n) where
  pub none_begun : None ≡ slice_get es n → Values.initial (type_in es t) ≡ Values.zero_value
  none_begun h = ap Values.initial (ap (type_in es) is ∙ type_past es n (past es n h))

  module _ (e : Entry) (at : Some e ≡ slice_get es n) (parts : Vec Value Global) where
    pub elements_begun : (size : ℕ) (element : DataType) → e.structure ≡ Array size element →
        values_in parts.items ≡ Values.copies size (Values.initial (type_in es element)) → value_in (Variants.Parts parts) ≡ Values.initial (type_in es t)
    elements_begun size element shape made =
        value_in-parts parts ∙ ap Values.Parts made
        ∙ sym (ap Values.initial (ap (type_in es) is ∙ type_at es table n e (sym at) ∙ ap (structure_by (types_of es) e.place) shape))

    pub array_begun : (size : ℕ) (element : DataType) (first : Value) → e.structure ≡ Array size element →
        values_in parts.items ≡ Values.copies size (value_in first) → value_in first ≡ Values.initial (type_in es element) →
        value_in (Variants.Parts parts) ≡ Values.initial (type_in es t)
    array_begun size element first shape made begun = elements_begun size element shape (made ∙ ap (Values.copies size) begun)

    pub record_begun : (fields : List (String Global × DataType)) → entry_by (types_of es) e ≡ Program.Record e.place (fields_by (types_of es) fields) →
        values_in parts.items ≡ Values.initial_fields (fields_by (types_of es) fields) →
        value_in (Variants.Parts parts) ≡ Values.initial (type_in es t)
    record_begun fields shape made =
        value_in-parts parts ∙ ap Values.Parts made
        ∙ sym (ap Values.initial (ap (type_in es) is ∙ type_at es table n e (sym at) ∙ shape))
