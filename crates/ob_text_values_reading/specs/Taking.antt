-- What is taken off a text that begins with a value, with what stands behind it.
use Rattle.std.specs.Prelude.{◌≡◌, ◌≢◌, ℕ, ◌≤◌, ◌==◌, ◌||◌, not, Bool, IsTrue, List, [], ◌∷◌, ◌++◌, Option, MatchOption, string_bytes}
use Rattle.std.specs.Borrow.{Bor}
use Rattle.std.specs.List.{list_all}
use Rattle.ob_carry.specs.View.{elements_of, fields_of, named_in}
use Rattle.ob_carry.specs.declared.fields_by_name.NamedField.{NamedField}
use Rattle.ob_carry.specs.declared.fields_by_name.NamedValue.{NamedValue}
use Rattle.ob_meaning.specs.ByNameValue.{Value, Values, NamedValues, no_named}
use Rattle.ob_text_values_reading.specs.ValueTexts.{AreElementTexts, AreFieldTexts, IsValueText, depth_of, depth_of_elements, depth_of_fields}
use Rattle.ob_text_words.specs.Words.{IsName, Word}

-- what ends a name or a scalar within a value: a comma, =, ] or }
abbrev pub is_mark : ℕ → Bool
is_mark b = (b == 44) || (b == 61) || (b == 93) || (b == 125)

abbrev pub HasNoMark : List ℕ → Type 0
HasNoMark bytes = IsTrue (list_all (λ b. not (is_mark b)) bytes)

-- nothing, or a mark first
pub data Ends : List ℕ → Type 0 where
  at_end : Ends []
  at_mark : {b : ℕ} {rest : List ℕ} → IsTrue (is_mark b) → Ends (b ∷ rest)

-- a text is parted before its first mark
abbrev pub PartsAtMark : (text front back : List ℕ) → Type 0
PartsAtMark text front back =
    (first rest : List ℕ) → text ≡ first ++ rest → HasNoMark first → Ends rest → (front ≡ first) × (back ≡ rest)

-- a text begins with a value of a depth up to a limit, and this stands behind it
pub record TakesValue (limit : ℕ) (text : List ℕ) (v : Value) (rest : List ℕ) : Type 0 where
  pub word : Word
  pub parts : text ≡ word ++ rest
  pub says : IsValueText word v
  pub ends : Ends rest
  pub shallow : depth_of v ≤ limit

-- a text begins with elements and ], and this stands behind that
pub record TakesElements (limit : ℕ) (text : List ℕ) (vs : Values) (rest : List ℕ) : Type 0 where
  pub inner : List ℕ
  pub parts : text ≡ inner ++ 93 ∷ rest
  pub say : AreElementTexts inner vs
  pub shallow : depth_of_elements vs ≤ limit

-- a text begins with fields and }, and this stands behind that
pub record TakesFields (limit : ℕ) (text : List ℕ) (fs : NamedValues) (rest : List ℕ) : Type 0 where
  pub inner : List ℕ
  pub parts : text ≡ inner ++ 125 ∷ rest
  pub say : AreFieldTexts inner fs
  pub shallow : depth_of_fields fs ≤ limit

-- the same where there may be no field before the brace
pub data TakesSomeFields (limit : ℕ) : List ℕ → NamedValues → List ℕ → Type 0 where
  no_field : {rest : List ℕ} → TakesSomeFields limit (125 ∷ rest) no_named rest
  some_fields : {text : List ℕ} {fs : NamedValues} {rest : List ℕ} → TakesFields limit text fs rest → TakesSomeFields limit text fs rest

-- a text begins with neither [ nor {
pub record IsNoBracket (text : List ℕ) : Type 0 where
  pub no_array : (rest : List ℕ) → text ≢ 91 ∷ rest
  pub no_record : (rest : List ℕ) → text ≢ 123 ∷ rest

-- a text begins with the name and the value of a field, and this stands behind it
pub record TakesField (limit : ℕ) (text name : List ℕ) (v : Value) (rest : List ℕ) : Type 0 where
  pub behind : List ℕ
  pub parts : text ≡ name ++ 61 ∷ behind
  pub names : IsName name
  pub takes : TakesValue limit behind v rest

module _ (limit : ℕ) (text : List ℕ) where
  -- the value that a text begins with is found, with what stands behind it, if it begins with one
  abbrev pub FindsValue : Option (NamedValue × Bor (List ℕ)) → Type 0
  FindsValue found =
      MatchOption found ((v : Value) (rest : List ℕ) → TakesValue limit text v rest → ⊥) (λ f. TakesValue limit text (named_in f.0) f.1.now)

  -- the same of a field
  abbrev pub FindsField : Option (NamedField × Bor (List ℕ)) → Type 0
  FindsField found =
      MatchOption found ((name : List ℕ) (v : Value) (rest : List ℕ) → TakesField limit text name v rest → ⊥)
      (λ f. TakesField limit text (string_bytes f.0.name) (named_in f.0.value) f.1.now)

  -- these elements are found, with what stands behind them, if the text begins with elements
  abbrev pub FindsElements : List NamedValue → Option (Bor (List ℕ)) → Type 0
  FindsElements elements found =
      MatchOption found ((vs : Values) (rest : List ℕ) → TakesElements limit text vs rest → ⊥)
      (λ rest. TakesElements limit text (elements_of elements) rest.now)

  -- the same of fields
  abbrev pub FindsFields : List NamedField → Option (Bor (List ℕ)) → Type 0
  FindsFields fields found =
      MatchOption found ((fs : NamedValues) (rest : List ℕ) → TakesFields limit text fs rest → ⊥)
      (λ rest. TakesFields limit text (fields_of fields) rest.now)

  -- the same where there may be no field before the brace
  abbrev pub FindsSomeFields : List NamedField → Option (Bor (List ℕ)) → Type 0
  FindsSomeFields fields found =
      MatchOption found ((fs : NamedValues) (rest : List ℕ) → TakesSomeFields limit text fs rest → ⊥)
      (λ rest. TakesSomeFields limit text (fields_of fields) rest.now)
