-- The texts that say values: a scalar as in a script, an array as [v,v], a record as {f=v,g=v}, or {} where it has no field. A name
-- may stand twice among the fields of a record: then it is a value of no type.
use Rattle.std.specs.Prelude.{ℕ, suc, ◌≤◌, max, List, [], ◌∷◌, ◌++◌, codes}
use Rattle.ob_interface.specs.declared.scalar.Scalar.{Scalar}
use Rattle.ob_interface.specs.declared.scalar.ScalarType.{ScalarType}
use Rattle.ob_meaning.specs.ByNameValue.{Value, Single, Elements, Named, Values, no_value, value, NamedValues, no_named, named}
use Rattle.ob_text_words.specs.Values.{IsValue}
use Rattle.ob_text_words.specs.Words.{IsName, Word}

mutual
  -- a text says a value
  pub data IsValueText : Word → Value → Type 0 where
    scalar : {type : ScalarType} {text : Word} {s : Scalar} → IsValue type text s → IsValueText text (Single s)
    array : {inner : List ℕ} {vs : Values} → AreElementTexts inner vs → IsValueText (91 ∷ inner ++ 93 ∷ []) (Elements vs)
    no_field : IsValueText (codes "{}") (Named no_named)
    fields : {inner : List ℕ} {fs : NamedValues} → AreFieldTexts inner fs → IsValueText (123 ∷ inner ++ 125 ∷ []) (Named fs)

  -- elements, at least one, with a comma between two
  pub data AreElementTexts : List ℕ → Values → Type 0 where
    one_element : {text : Word} {v : Value} → IsValueText text v → AreElementTexts text (value v no_value)
    more_elements : {text : Word} {rest : List ℕ} {v : Value} {vs : Values} →
        IsValueText text v → AreElementTexts rest vs → AreElementTexts (text ++ 44 ∷ rest) (value v vs)

  -- fields, at least one, each with its name and its value, with a comma between two
  pub data AreFieldTexts : List ℕ → NamedValues → Type 0 where
    one_field : {name text : Word} {v : Value} → IsName name → IsValueText text v → AreFieldTexts (name ++ 61 ∷ text) (named name v no_named)
    more_fields : {name text : Word} {rest : List ℕ} {v : Value} {fs : NamedValues} →
        IsName name → IsValueText text v → AreFieldTexts rest fs → AreFieldTexts (name ++ 61 ∷ (text ++ 44 ∷ rest)) (named name v fs)

-- how many arrays and records stand within one another
abbrev mutual
  pub depth_of : Value → ℕ
  depth_of (Single s) = 0
  depth_of (Elements vs) = suc (depth_of_elements vs)
  depth_of (Named fs) = suc (depth_of_fields fs)

  pub depth_of_elements : Values → ℕ
  depth_of_elements no_value = 0
  depth_of_elements (value v vs) = max (depth_of v) (depth_of_elements vs)

  pub depth_of_fields : NamedValues → ℕ
  depth_of_fields no_named = 0
  depth_of_fields (named name v fs) = max (depth_of v) (depth_of_fields fs)

-- the greatest depth of a value that is read, which is that of a type
abbrev pub deepest_value : ℕ
deepest_value = 100

-- a text says a value that is not too deep
pub record SaysValue (text : Word) (v : Value) : Type 0 where
  pub says : IsValueText text v
  pub shallow : depth_of v ≤ deepest_value
