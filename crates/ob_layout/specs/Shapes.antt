-- The types that the numbers of a table of shapes stand for.
use Rattle.std.specs.Prelude.{◌≡◌, ℕ, ◌+◌, ◌≤◌, List, [], ◌∷◌, ◌++◌, length, true, ◌&&◌, Some, slice_get, string_bytes, map, String}
use Rattle.std.specs.declared.alloc.Global.{Global}
use Rattle.std.specs.Prelude as Prelude
use Rattle.ob_typing.specs.Program as Program
use Rattle.ob_code_scheme.specs.Types.{words, offset}
use Rattle.ob_checked.specs.Types.{type_by, is_below}
use Rattle.ob_checked.specs.declared.types.DataType.{DataType}
use Rattle.ob_layout.specs.declared.shapes.Field.{Field}
use Rattle.ob_layout.specs.declared.shapes.Parts.{Parts}
use Rattle.ob_layout.specs.declared.shapes.Parts.TheVariants.{Elements, Fields}
use Rattle.ob_layout.specs.declared.shapes.Shape.{Shape}

abbrev pub fields_by : List Program.DataType → List Field → Program.Fields
fields_by ts [] = Program.no_field
fields_by ts (f ∷ fs) = Program.field (string_bytes f.name) (type_by ts f.data_type) (fields_by ts fs)

abbrev pub parts_by : List Program.DataType → ℕ → Parts → Program.DataType
parts_by ts place (Elements length element) = Program.Array place length (type_by ts element)
parts_by ts place (Fields fields) = Program.Record place (fields_by ts fields.items)

abbrev pub shape_by : List Program.DataType → Shape → Program.DataType
shape_by ts s = parts_by ts s.place s.parts

-- what the shapes stand for, each by those before it
abbrev pub types_behind : List Program.DataType → List Shape → List Program.DataType
types_behind ts [] = ts
types_behind ts (s ∷ ss) = types_behind (ts ++ shape_by ts s ∷ []) ss

abbrev pub types_of : List Shape → List Program.DataType
types_of ss = types_behind [] ss

-- the type that a type of the program stands for in a table of shapes
abbrev pub type_in : List Shape → DataType → Program.DataType
type_in ss t = type_by (types_of ss) t

abbrev pub all_below : ℕ → List Field → Prelude.Bool
all_below n [] = true
all_below n (f ∷ fs) = is_below n f.data_type && all_below n fs

-- what stands within has numbers below n
abbrev pub is_within : ℕ → Parts → Prelude.Bool
is_within n (Elements length element) = is_below n element
is_within n (Fields fields) = all_below n fields.items

-- the fields of a record
abbrev pub fields_of : Parts → List Field
fields_of (Elements length element) = []
fields_of (Fields fields) = fields.items

-- each field has the words of those before it
abbrev pub AreOffsets : List Program.DataType → List Field → Type 0
AreOffsets ts fields = (i : ℕ) (f : Field) → slice_get fields i ≡ Some f → f.offset ≡ offset (fields_by ts fields) i

-- a name and a type
abbrev pub Bare : Type 0
Bare = Program.Name × DataType

abbrev pub bare : Field → Bare
bare f = (string_bytes f.name, f.data_type)

abbrev pub bare_entry : String Global × DataType → Bare
bare_entry e = (string_bytes e.0, e.1)

-- an array of so many elements of a type
pub record IsArray (length : ℕ) (element : DataType) (s : Shape) : Type 0 where
  pub parts : s.parts ≡ Elements length element

-- a record of these fields, with their words
pub record IsRecord (ts : List Program.DataType) (at : ℕ) (entries : List (String Global × DataType)) (s : Shape) : Type 0 where
  pub place : s.place ≡ at
  pub record_of : (place : ℕ) (us : List Program.DataType) → parts_by us place s.parts ≡ Program.Record place (fields_by us (fields_of s.parts))
  pub same : map bare (fields_of s.parts) ≡ map bare_entry entries
  pub words : s.words ≡ words (shape_by ts s)
  pub offsets : AreOffsets ts (fields_of s.parts)

-- a shape behind n others
pub record IsShape (ts : List Program.DataType) (n : ℕ) (s : Shape) : Type 0 where
  pub within : is_within n s.parts ≡ true
  pub words : s.words ≡ words (shape_by ts s)
  pub small : s.words ≤ 4096
  pub offsets : AreOffsets ts (fields_of s.parts)

pub record AreShapes (ss : List Shape) : Type 0 where
  pub shape : (n : ℕ) (s : Shape) → slice_get ss n ≡ Some s → IsShape (types_of ss) n s
