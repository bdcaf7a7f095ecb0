-- The text of values by name, which need no type beside them; and the lines of a state by name.
use Rattle.std.specs.Prelude.{ℕ, suc, List, ◌++◌, codes}
use Rattle.std.specs.List.{flat_map}
use Rattle.ob_meaning.specs.ByNameObject.{State}
use Rattle.ob_meaning.specs.ByNameStore.{Binding, value_held}
use Rattle.ob_meaning.specs.ByNameValue.{Value, Single, Elements, Named, Values, no_value, value, NamedValues, no_named, named}
use Rattle.ob_text_words.specs.ScalarTexts.{scalar_text}
use Rattle.ob_text_record.specs.Values.{separator}

abbrev mutual
  pub named_text : Value → List ℕ
  named_text (Single s) = scalar_text s
  named_text (Elements vs) = codes "[" ++ named_elements 0 vs ++ codes "]"
  named_text (Named fs) = codes "{" ++ named_fields 0 fs ++ codes "}"

  -- the elements from a position on
  pub named_elements : ℕ → Values → List ℕ
  named_elements n no_value = codes ""
  named_elements n (value v vs) = separator n ++ named_text v ++ named_elements (suc n) vs

  -- the fields from a position on, each with its name
  pub named_fields : ℕ → NamedValues → List ℕ
  named_fields n no_named = codes ""
  named_fields n (named name v fs) = separator n ++ name ++ codes "=" ++ named_text v ++ named_fields (suc n) fs

-- V name value
abbrev pub binding_line : Binding → List ℕ
binding_line b = codes "V " ++ b.name ++ codes " " ++ named_text (value_held b.held) ++ codes "\n"

-- the lines of the module's variables, in text order
abbrev pub named_state_text : State → List ℕ
named_state_text = flat_map binding_line
