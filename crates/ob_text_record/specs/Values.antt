-- The text of values: a scalar as in a script, an array as [v,v], a record as {f=v,g=v}, or {} where it has no field.
use Rattle.std.specs.Prelude.{ℕ, zero, suc, List, [], ◌++◌, codes}
use Rattle.ob_checked.specs.Types.{Entry, fields_by, fields_in, types_of}
use Rattle.ob_checked.specs.declared.fields.Fields as Checked
use Rattle.ob_typing.specs.Program.{DataType, Simple, Array, Record, Fields, no_field, field}
use Rattle.ob_meaning.specs.ByPositionValue.{Value, Single, Parts, Values, no_part, part}
use Rattle.ob_text_words.specs.ScalarTexts.{scalar_text}

-- before the part at a position: a comma, but for the first one
abbrev pub separator : ℕ → List ℕ
separator zero = []
separator (suc n) = codes ","

abbrev mutual
  -- a value of a type; parts of a scalar type have no text, as never with a checked program
  pub value_text : DataType → Value → List ℕ
  value_text type (Single s) = scalar_text s
  value_text (Simple type) (Parts vs) = []
  value_text (Array place length element) (Parts vs) = codes "[" ++ elements_text 0 element vs ++ codes "]"
  value_text (Record place fields) (Parts vs) = codes "{" ++ fields_text 0 fields vs ++ codes "}"

  -- the elements from a position on
  pub elements_text : ℕ → DataType → Values → List ℕ
  elements_text n element no_part = []
  elements_text n element (part v vs) = separator n ++ value_text element v ++ elements_text (suc n) element vs

  -- the fields from a position on, each with its name
  pub fields_text : ℕ → Fields → Values → List ℕ
  fields_text n fields no_part = []
  fields_text n no_field (part v vs) = []
  fields_text n (field name type fields) (part v vs) =
      separator n ++ name ++ codes "=" ++ value_text type v ++ fields_text (suc n) fields vs

-- an array of these elements, and a record of these fields
abbrev pub array_text : DataType → Values → List ℕ
array_text element vs = codes "[" ++ elements_text 0 element vs ++ codes "]"

abbrev pub record_text : Fields → Values → List ℕ
record_text fields vs = codes "{" ++ fields_text 0 fields vs ++ codes "}"

-- a record whose fields have types of a table
abbrev pub record_text_in : List Entry → Checked.Fields → Values → List ℕ
record_text_in table fields vs = record_text (fields_by (types_of table) (fields_in fields)) vs
