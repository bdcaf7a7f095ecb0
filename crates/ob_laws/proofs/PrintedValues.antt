-- What is printed of a value says it.
use Rattle.std.proofs.Common.{◌≡◌, ◌∙◌, ℕ, suc, List, [], ◌∷◌, ◌++◌, codes, refl, sym, ap, subst, append_assoc, append-nil}
use Rattle.ob_interface.specs.declared.scalar.Scalar.TheVariants as Scalars
use Rattle.ob_meaning.specs.ByNameValue.{Value, Single, Elements, Named, Values, no_value, value, NamedValues, no_named, named}
use Rattle.ob_text_words.specs.Values as Said
use Rattle.ob_text_record.specs.Named.{named_elements, named_fields, named_text}
use Rattle.ob_text_words.specs.Words.{IsName}
use Rattle.ob_text_values_reading.proofs.Numerals.{integer_text}
use Rattle.ob_text_values_reading.specs.Printed.{AreSome, ArePrintable, ArePrintableFields, IsPrintable}
use Rattle.ob_text_values_reading.specs.ValueTexts as Texts
use Rattle.ob_text_values_reading.specs.ValueTexts.{AreElementTexts, AreFieldTexts, IsValueText}

-- the text of a field, and what stands behind it
field_text : (name text rest : List ℕ) → name ++ codes "=" ++ text ++ rest ≡ name ++ 61 ∷ (text ++ rest)
field_text name text rest = ap (λ t. t ++ rest) (append_assoc name (61 ∷ []) text) ∙ append_assoc name (61 ∷ text) rest

field_alone : (name text : List ℕ) → name ++ codes "=" ++ text ++ [] ≡ name ++ 61 ∷ text
field_alone name text = field_text name text [] ∙ ap (λ t. name ++ 61 ∷ t) (append-nil text)

-- elements with no comma before the first one
abbrev elements_text : ℕ → Values → List ℕ
elements_text n no_value = []
elements_text n (value v vs) = named_text v ++ named_elements (suc n) vs

array_said : (vs : Values) → AreSome vs → AreElementTexts (elements_text 0 vs) vs → IsValueText (named_text (Elements vs)) (Elements vs)
array_said no_value some h = absurd some
array_said (value v vs) some h = Texts.array h

element_said : (n : ℕ) (v : Value) (vs : Values) → IsValueText (named_text v) v → (AreSome vs → AreElementTexts (elements_text (suc n) vs) vs) → AreElementTexts (elements_text n (value v vs)) (value v vs)
element_said n v no_value h rest = subst (λ (t : List ℕ). AreElementTexts t (value v no_value)) (sym (append-nil (named_text v))) (Texts.one_element h)
element_said n v (value w ws) h rest = Texts.more_elements h (rest tt)

-- fields with no comma before the first one
abbrev fields_text : ℕ → NamedValues → List ℕ
fields_text n no_named = []
fields_text n (named name v fs) = name ++ codes "=" ++ named_text v ++ named_fields (suc n) fs

abbrev AreSomeFields : NamedValues → Type 0
AreSomeFields no_named = ⊥
AreSomeFields (named name v fs) = Unit {0}

record_said : (fs : NamedValues) → (AreSomeFields fs → AreFieldTexts (fields_text 0 fs) fs) → IsValueText (named_text (Named fs)) (Named fs)
record_said no_named h = Texts.no_field
record_said (named name v fs) h = Texts.fields (h tt)

field_said : (n : ℕ) (name : List ℕ) (v : Value) (fs : NamedValues) → IsName name → IsValueText (named_text v) v → (AreSomeFields fs → AreFieldTexts (fields_text (suc n) fs) fs) →
    AreFieldTexts (fields_text n (named name v fs)) (named name v fs)
field_said n name v no_named m h rest =
    subst (λ (t : List ℕ). AreFieldTexts t (named name v no_named)) (sym (field_alone name (named_text v))) (Texts.one_field m h)
field_said n name v (named other w gs) m h rest =
    subst (λ (t : List ℕ). AreFieldTexts t (named name v (named other w gs))) (sym (field_text name (named_text v) (named_fields (suc n) (named other w gs))))
    (Texts.more_fields m h (rest tt))

mutual
  pub printed : (v : Value) → IsPrintable v → IsValueText (named_text v) v
  printed (Single (Scalars.Int z)) h = Texts.scalar (Said.integer (integer_text z h))
  printed (Single (Scalars.Bool b)) h = Texts.scalar (Said.boolean refl)
  printed (Elements vs) h = array_said vs h.0 (elements_printed 0 vs h.0 h.1)
  printed (Named fs) h = record_said fs (λ some. fields_printed 0 fs some h)

  elements_printed : (n : ℕ) (vs : Values) → AreSome vs → ArePrintable vs → AreElementTexts (elements_text n vs) vs
  elements_printed n no_value some h = absurd some
  elements_printed n (value v vs) some h = element_said n v vs (printed v h.0) (λ more. elements_printed (suc n) vs more h.1)

  fields_printed : (n : ℕ) (fs : NamedValues) → AreSomeFields fs → ArePrintableFields fs → AreFieldTexts (fields_text n fs) fs
  fields_printed n no_named some h = absurd some
  fields_printed n (named name v fs) some h = field_said n name v fs h.0 (printed v h.1.0) (λ more. fields_printed (suc n) fs more h.1.1)
