-- The text of a value is a word, where the fields of its type have names.
use Rattle.std.proofs.Common.{ℕ, zero, suc, [], ◌++◌, codes, refl}
use Rattle.ob_code_scheme.specs.Correct.{IsInRange}
use Rattle.ob_code_scheme.specs.Types.{AreAll, AreFields, IsScalarOf, IsValueOf}
use Rattle.ob_interface.specs.declared.scalar.Scalar.{Scalar}
use Rattle.ob_interface.specs.declared.scalar.Scalar.TheVariants as Scalars
use Rattle.ob_interface.specs.declared.scalar.ScalarType.{ScalarType}
use Rattle.ob_interface.specs.declared.scalar.ScalarType.TheVariants.{Integer, Boolean}
use Rattle.ob_meaning.specs.ByPositionValue.{Value, Single, Parts, Values, no_part, part}
use Rattle.ob_laws.proofs.FieldNames.{HasNames, HaveNames}
use Rattle.ob_laws.proofs.Names.{name_word}
use Rattle.ob_laws.proofs.Numbers.{scalar_word}
use Rattle.ob_laws.proofs.Words.{IsClean, IsWord, clean_joined, clean_more, clean_none, word_behind}
use Rattle.ob_text_record.specs.Values.{elements_text, fields_text, separator, value_text}
use Rattle.ob_typing.specs.Program.{DataType, Simple, Array, Record, Fields, no_field, field}

scalar_in_range : (type : ScalarType) (s : Scalar) → IsScalarOf type s → IsInRange s
scalar_in_range Integer (Scalars.Int z) h = h
scalar_in_range Integer (Scalars.Bool b) h = absurd h
scalar_in_range Boolean (Scalars.Int z) h = absurd h
scalar_in_range Boolean (Scalars.Bool b) h = tt

separator_clean : (n : ℕ) → IsClean (separator n)
separator_clean zero = clean_none
separator_clean (suc n) = clean_more 44 [] refl refl clean_none

mutual
  pub value_word : (t : DataType) (v : Value) → HasNames t → IsValueOf t v → IsWord (value_text t v)
  value_word (Simple type) (Single s) w h = scalar_word s (scalar_in_range type s h)
  value_word (Simple type) (Parts vs) w h = absurd h
  value_word (Array place count element) (Single s) w h = absurd h
  value_word (Array place count element) (Parts vs) w h =
      word_behind 91 (elements_text 0 element vs ++ codes "]") refl refl
      (clean_joined (elements_text 0 element vs) (codes "]") (elements_clean 0 element count vs w.1 h) (clean_more 93 [] refl refl clean_none))
  value_word (Record place fields) (Single s) w h = absurd h
  value_word (Record place fields) (Parts vs) w h =
      word_behind 123 (fields_text 0 fields vs ++ codes "}") refl refl
      (clean_joined (fields_text 0 fields vs) (codes "}") (fields_clean 0 fields vs w h) (clean_more 125 [] refl refl clean_none))

  elements_clean : (n : ℕ) (element : DataType) (count : ℕ) (vs : Values) → HasNames element → AreAll (λ v. IsValueOf element v) count vs → IsClean (elements_text n element vs)
  elements_clean n element zero no_part w h = clean_none
  elements_clean n element zero (part v vs) w h = absurd h
  elements_clean n element (suc count) no_part w h = absurd h
  elements_clean n element (suc count) (part v vs) w h =
      clean_joined (separator n ++ value_text element v) (elements_text (suc n) element vs)
      (clean_joined (separator n) (value_text element v) (separator_clean n) (value_word element v w h.0).clean)
      (elements_clean (suc n) element count vs w h.1)

  fields_clean : (n : ℕ) (fields : Fields) (vs : Values) → HaveNames fields → AreFields fields vs → IsClean (fields_text n fields vs)
  fields_clean n no_field no_part w h = clean_none
  fields_clean n no_field (part v vs) w h = absurd h
  fields_clean n (field name type rest) no_part w h = absurd h
  fields_clean n (field name type rest) (part v vs) w h =
      let named = clean_joined (separator n) name (separator_clean n) (name_word name w.0).clean in
      let equal = clean_joined (separator n ++ name) (codes "=") named (clean_more 61 [] refl refl clean_none) in
      let first = clean_joined (separator n ++ name ++ codes "=") (value_text type v) equal (value_word type v w.1 h.0).clean in
      clean_joined (separator n ++ name ++ codes "=" ++ value_text type v) (fields_text (suc n) rest vs) first (fields_clean (suc n) rest vs w.2 h.1)
