-- What named values stand for: no pointers, and vectors as lists.
use Rattle.std.specs.Prelude.{List, [], ◌∷◌, map, string_bytes}
use Rattle.ob_carry.specs.declared.fields_by_name.NamedValue.{NamedValue, Row_of-NamedValue, end_of-NamedValue, more_of-NamedValue, Row_of-NamedField, end_of-NamedField, more_of-NamedField}
use Rattle.ob_carry.specs.declared.fields_by_name.NamedValue.TheVariants.{Single, Elements', Fields'}
use Rattle.ob_carry.specs.declared.fields_by_name.NamedField.{NamedField}
use Rattle.ob_carry.specs.Carried.{Entry}
use Rattle.ob_meaning.specs.ByNameValue as Named

abbrev mutual
  pub named_in : NamedValue → Named.Value
  named_in (Single s) = Named.Single s
  named_in (Elements' shape elements) = Named.Elements (elements_in elements)
  named_in (Fields' shape fields) = Named.Named (fields_in fields)

  pub elements_in : {m : _} → Row_of-NamedValue m → Named.Values
  elements_in end_of-NamedValue = Named.no_value
  elements_in (more_of-NamedValue v rest) = Named.value (named_in v) (elements_in rest)

  pub fields_in : {m : _} → Row_of-NamedField m → Named.NamedValues
  fields_in end_of-NamedField = Named.no_named
  fields_in (more_of-NamedField name v rest) = Named.named (string_bytes name) (named_in v) (fields_in rest)

-- values that stand outside another one
abbrev pub elements_of : List NamedValue → Named.Values
elements_of [] = Named.no_value
elements_of (v ∷ rest) = Named.value (named_in v) (elements_of rest)

-- fields that stand outside another value
abbrev pub fields_of : List NamedField → Named.NamedValues
fields_of [] = Named.no_named
fields_of (f ∷ rest) = Named.named (string_bytes f.name) (named_in f.value) (fields_of rest)

-- what a list gives to a name
abbrev pub entry_of : NamedField → Entry
entry_of f = record { name = string_bytes f.name; value = named_in f.value }

abbrev pub entries_of : List NamedField → List Entry
entries_of = map entry_of
