-- Types that are the same.
use Rattle.std.proofs.Common.{◌≡◌, ◌≢◌, ℕ, zero, suc, ◌+◌, ◌<◌, ◌≤◌, Bool, true, false, List, [], ◌∷◌, length, drop, get_or, Some, refl, sym, ap, ◌∙◌, arith, String, eq-eqb}
use Rattle.std.specs.Prelude.{◌&&◌, bytes_eq, nat_eq, string_bytes, slice_get}
use Rattle.std.specs.declared.alloc.Global.{Global}
use Rattle.std.proofs.lemmas.Slice.Eq.{bytes_eq-Decides}
use Rattle.ob_interface.specs.declared.scalar.ScalarType.{ScalarType}
use Rattle.ob_interface.specs.declared.scalar.ScalarType.TheVariants.{Integer, Boolean}
use Rattle.ob_typing.specs.Program.{DataType, Fields, Simple, Array, Record, no_field, field}
use Rattle.ob_typing.specs.Arithmetic.{same_scalar_type}
use Rattle.ob_typing.specs.Scopes.{same_type, same_fields, depth, depth_of_fields}
use Rattle.ob_checked.specs.declared.types.DataType as Numbers
use Rattle.ob_checked.specs.declared.types.Structure.{Structure}
use Rattle.ob_checked.specs.declared.types.Structure.TheVariants as Structures
use Rattle.ob_checked.specs.Types.{Entry, type_by, type_in, fields_in, fields_by}
use Rattle.ob_scopes.proofs.Lists.{next_left}

abbrev Numbered : Type 0
Numbered = Numbers.DataType

both : (a b : Bool) → a ≡ true → b ≡ true → (a && b) ≡ true
both true b h k = k
both false b h k = absurd cc

-- a type is the same as itself
same_scalar-refl : (s : ScalarType) → same_scalar_type s s ≡ true
same_scalar-refl Integer = refl
same_scalar-refl Boolean = refl

name-refl : (name : List ℕ) → bytes_eq name name ≡ true
name-refl name = (bytes_eq-Decides name name).1 refl

mutual
  pub same_type-refl : (t : DataType) → same_type t t ≡ true
  same_type-refl (Simple s) = same_scalar-refl s
  same_type-refl (Array place len element) =
      both (nat_eq place place) _ (eq-eqb place place refl) (both (nat_eq len len) _ (eq-eqb len len refl) (same_type-refl element))
  same_type-refl (Record place fields) = both (nat_eq place place) _ (eq-eqb place place refl) (same_fields-refl fields)

  same_fields-refl : (fs : Fields) → same_fields fs fs ≡ true
  same_fields-refl no_field = refl
  same_fields-refl (field name type rest) =
      both (bytes_eq name name) _ (name-refl name) (both (same_type type type) _ (same_type-refl type) (same_fields-refl rest))

-- what stands within is less deep
abbrev pub inner_depth : List DataType → Structure → ℕ
inner_depth ts (Structures.Array length element) = depth (type_by ts element)
inner_depth ts (Structures.Record fields) = depth_of_fields (fields_by ts (fields_in fields))

pub field_depth : (ts : List DataType) (fs : List (String Global × Numbered)) (i : ℕ) (f : String Global × Numbered) → slice_get fs i ≡ Some f →
    depth (type_by ts f.1) ≤ depth_of_fields (fields_by ts fs)
field_depth ts [] i f h = absurd cc
field_depth ts (x ∷ fs) zero f h =
    let is : x ≡ f = cc in
    let same = ap (λ (y : String Global × Numbered). depth (type_by ts y.1)) is in
    omega (arith, same)
field_depth ts (x ∷ fs) (suc i) f h = omega (arith, field_depth ts fs i f h)

-- fields, one by one
module _ (ts : List DataType) where
  pub same_length : (fs gs : List (String Global × Numbered)) → length fs ≢ length gs → false ≡ same_fields (fields_by ts fs) (fields_by ts gs)
  same_length [] [] h = absurd (h refl)
  same_length [] (g ∷ gs) h = refl
  same_length (f ∷ fs) [] h = refl
  same_length (f ∷ fs) (g ∷ gs) h =
      let rest = same_length fs gs (λ e. h (ap suc e)) in
      rw (← rest) (all_false (bytes_eq (string_bytes f.0) (string_bytes g.0)) (same_type (type_by ts f.1) (type_by ts g.1)))
    where
      all_false : (a b : Bool) → false ≡ (a && (b && false))
      all_false true true = refl
      all_false true false = refl
      all_false false b = refl

  drop_get : (fs : List (String Global × Numbered)) (i : ℕ) (f : String Global × Numbered) → slice_get fs i ≡ Some f → drop i fs ≡ f ∷ drop (i + 1) fs
  drop_get fs i f h = next_left fs i f (within fs i f h) (sym (read fs i f h))
    where
      within : (fs : List (String Global × Numbered)) (i : ℕ) (f : String Global × Numbered) → slice_get fs i ≡ Some f → i < length fs
      within [] i f h = absurd cc
      within (x ∷ fs) zero f h = omega arith
      within (x ∷ fs) (suc i) f h = omega (arith, within fs i f h)

      read : (fs : List (String Global × Numbered)) (i : ℕ) (f : String Global × Numbered) → slice_get fs i ≡ Some f → get_or fs i f ≡ f
      read [] i f h = absurd cc
      read (x ∷ fs) zero f h = let is : x ≡ f = cc in is
      read (x ∷ fs) (suc i) f h = read fs i f h

  module _ (fs gs : List (String Global × Numbered)) (i : ℕ) (f g : String Global × Numbered) (at : slice_get fs i ≡ Some f) (at' : slice_get gs i ≡ Some g) where
    -- what is left from a position on
    abbrev pub left_from : ℕ → Bool
    left_from k = same_fields (fields_by ts (drop k fs)) (fields_by ts (drop k gs))

    first_field : left_from i ≡ (bytes_eq (string_bytes f.0) (string_bytes g.0) && (same_type (type_by ts f.1) (type_by ts g.1) && left_from (i + 1)))
    first_field = ap (λ xs. same_fields (fields_by ts xs) (fields_by ts (drop i gs))) (drop_get fs i f at) ∙ ap (λ xs. same_fields (fields_by ts (f ∷ drop (i + 1) fs)) (fields_by ts xs)) (drop_get gs i g at')

    pub field_same : bytes_eq (string_bytes f.0) (string_bytes g.0) ≡ true → true ≡ same_type (type_by ts f.1) (type_by ts g.1) → left_from i ≡ left_from (i + 1)
    field_same n t = first_field ∙ rw n (rw (← t) refl)

    pub other_name : bytes_eq (string_bytes f.0) (string_bytes g.0) ≡ false → false ≡ left_from i
    other_name n = sym (first_field ∙ rw n refl)

    pub other_type : false ≡ same_type (type_by ts f.1) (type_by ts g.1) → false ≡ left_from i
    other_type t = sym (first_field ∙ rw (← t) (either (bytes_eq (string_bytes f.0) (string_bytes g.0))))
      where
        either : (a : Bool) → (a && false) ≡ false
        either true = refl
        either false = refl

-- equal numbers stand for one type
pub same_number_type : (es : List Entry) (t u : Numbered) → t ≡ u → true ≡ same_type (type_in es t) (type_in es u)
same_number_type es t u h = sym (same_type-refl (type_in es t)) ∙ ap (λ v. same_type (type_in es t) (type_in es v)) h
