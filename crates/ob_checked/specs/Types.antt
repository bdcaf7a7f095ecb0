-- The types that the numbers of a table stand for.
use Rattle.std.specs.Prelude.{◌≡◌, ℕ, ◌≤◌, List, [], ◌∷◌, ◌++◌, length, true, ◌&&◌, nat_lt, if◌then◌else◌, Option, Some, None, slice_get, get_or, string_bytes, String}
use Rattle.std.specs.Prelude as Prelude
use Rattle.std.specs.declared.alloc.Global.{Global}
use Rattle.ob_interface.specs.declared.scalar.ScalarType.TheVariants.{Integer}
use Rattle.ob_typing.specs.Program
use Rattle.ob_typing.specs.Scopes.{words, depth, is_small}
use Rattle.ob_checked.specs.declared.types.DataType.{DataType}
use Rattle.ob_checked.specs.declared.types.DataType.TheVariants.{Simple, Structured}
use Rattle.ob_checked.specs.declared.types.Structure.{Structure}
use Rattle.ob_checked.specs.declared.types.Structure.TheVariants.{Array, Record}
use Rattle.ob_checked.specs.declared.types.Structured as Entries
use Rattle.ob_checked.specs.declared.fields.Fields.{Fields}

abbrev pub Entry : Type 0
Entry = Entries.Structured

-- a type, where the numbers stand for these; one without a number in the table is never met
abbrev pub type_by : List Program.DataType → DataType → Program.DataType
type_by ts (Simple t) = Program.Simple t
type_by ts (Structured n) = get_or ts n (Program.Simple Integer)

-- the fields of a record in text order
abbrev pub fields_in : Fields → List (String Global × DataType)
fields_in f = f.entries.items

abbrev pub fields_by : List Program.DataType → List (String Global × DataType) → Program.Fields
fields_by ts [] = Program.no_field
fields_by ts (f ∷ fs) = Program.field (string_bytes f.0) (type_by ts f.1) (fields_by ts fs)

abbrev pub structure_by : List Program.DataType → ℕ → Structure → Program.DataType
structure_by ts place (Array length element) = Program.Array place length (type_by ts element)
structure_by ts place (Record fields) = Program.Record place (fields_by ts (fields_in fields))

abbrev pub entry_by : List Program.DataType → Entry → Program.DataType
entry_by ts e = structure_by ts e.place e.structure

-- what the entries stand for, each by those before it
abbrev pub types_behind : List Program.DataType → List Entry → List Program.DataType
types_behind ts [] = ts
types_behind ts (e ∷ es) = types_behind (ts ++ entry_by ts e ∷ []) es

abbrev pub types_of : List Entry → List Program.DataType
types_of es = types_behind [] es

-- the type that a type of the program stands for in a table
abbrev pub type_in : List Entry → DataType → Program.DataType
type_in es t = type_by (types_of es) t

-- a type with a number below n, or with none
abbrev pub is_below : ℕ → DataType → Prelude.Bool
is_below n (Simple t) = true
is_below n (Structured k) = nat_lt k n

abbrev pub all_below : ℕ → List (String Global × DataType) → Prelude.Bool
all_below n [] = true
all_below n (f ∷ fs) = is_below n f.1 && all_below n fs

-- what stands within has numbers below n
abbrev pub is_within : ℕ → Structure → Prelude.Bool
is_within n (Array length element) = is_below n element
is_within n (Record fields) = all_below n (fields_in fields)

-- an entry behind n others
pub record IsEntry (ts : List Program.DataType) (n : ℕ) (e : Entry) : Type 0 where
  pub within : is_within n e.structure ≡ true
  pub words : e.words ≡ words (entry_by ts e)
  pub depth : e.depth ≡ depth (entry_by ts e)
  pub small : is_small (entry_by ts e) ≡ true

pub record IsTable (es : List Entry) : Type 0 where
  pub entry : (n : ℕ) (e : Entry) → slice_get es n ≡ Some e → IsEntry (types_of es) n e

-- a table that went on: the types of the old one keep their meaning
pub record Extends (old new : List Entry) : Type 0 where
  pub longer : length old ≤ length new
  pub same : (t : DataType) → is_below (length old) t ≡ true → type_in new t ≡ type_in old t

-- the type, where it keeps the limits
abbrev pub if_small : Program.DataType → Option Program.DataType
if_small t = if is_small t then Some t else None
