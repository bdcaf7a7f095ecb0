-- Types and declared names. The innermost scope comes first.
use Rattle.std.specs.Prelude.{◌≡◌, ℕ, ◌+◌, ◌*◌, max, suc, true, false, ◌&&◌, List, [], ◌∷◌, length, codes, bytes_eq, nat_eq, nat_le, if◌then◌else◌, Option, Some, None, is_some}
use Rattle.std.specs.Prelude as Prelude
use Rattle.ob_interface.specs.declared.scalar.Scalar.{Scalar}
use Rattle.ob_interface.specs.declared.scalar.Scalar.TheVariants.{Bool}
use Rattle.ob_interface.specs.declared.scalar.ScalarType.{ScalarType}
use Rattle.ob_interface.specs.declared.scalar.ScalarType.TheVariants.{Integer, Boolean}
use Rattle.ob_typing.specs.Program.{Name, DataType, Simple, Array, Record, Fields, no_field, field, OfModule, Own, Slot, Parameter}
use Rattle.ob_typing.specs.Arithmetic.{same_scalar_type, type_of}

-- types

-- the words of a type; a record without fields counts as one
abbrev mutual
  pub words : DataType → ℕ
  words (Simple type) = 1
  words (Array place length element) = length * words element
  words (Record place fields) = max 1 (words_of_fields fields)

  pub words_of_fields : Fields → ℕ
  words_of_fields no_field = 0
  words_of_fields (field name type rest) = words type + words_of_fields rest

-- how deep arrays and records stand within each other
abbrev mutual
  pub depth : DataType → ℕ
  depth (Simple type) = 0
  depth (Array place length element) = suc (depth element)
  depth (Record place fields) = suc (depth_of_fields fields)

  pub depth_of_fields : Fields → ℕ
  depth_of_fields no_field = 0
  depth_of_fields (field name type rest) = max (depth type) (depth_of_fields rest)

-- a type has at most 4096 words, and is at most 100 deep
abbrev pub is_small : DataType → Prelude.Bool
is_small t = nat_le (words t) 4096 && nat_le (depth t) 100

-- the same type: structured ones come from one occurrence of ARRAY or RECORD, and so are the same in all
abbrev mutual
  pub same_type : DataType → DataType → Prelude.Bool
  same_type (Simple s) (Simple t) = same_scalar_type s t
  same_type (Array place length element) (Array place' length' element') =
      nat_eq place place' && (nat_eq length length' && same_type element element')
  same_type (Record place fields) (Record place' fields') = nat_eq place place' && same_fields fields fields'
  same_type s t = false

  pub same_fields : Fields → Fields → Prelude.Bool
  same_fields no_field no_field = true
  same_fields (field name type rest) (field name' type' rest') =
      bytes_eq name name' && (same_type type type' && same_fields rest rest')
  same_fields fields fields' = false

-- a variable of this type holds scalars of this type
abbrev pub holds : DataType → ScalarType → Prelude.Bool
holds (Simple s) t = same_scalar_type s t
holds _ t = false

abbrev pub is_simple : DataType → Prelude.Bool
is_simple (Simple t) = true
is_simple _ = false

-- the fields of a record
abbrev pub fields_of : DataType → Option Fields
fields_of (Record place fields) = Some fields
fields_of _ = None

-- the length of an array, and the type of its elements
abbrev pub elements_of : DataType → Option (ℕ × DataType)
elements_of (Array place length element) = Some (length, element)
elements_of _ = None

-- the position and the type of the field of this name, behind so many others
abbrev pub field_from : ℕ → Fields → Name → Option (ℕ × DataType)
field_from n no_field name = None
field_from n (field other type rest) name =
    if bytes_eq other name then Some (n, type) else field_from (suc n) rest name

-- scopes

-- what a name is declared as
pub data Object : Type 0 where
  Constant : (value : Scalar) → Object
  TypeName : (type : DataType) → Object
  ModuleVariable : (position : ℕ) (type : DataType) → Object
  -- a variable or a parameter of a procedure, with the number of scopes at its declaration
  LocalVariable : (level position : ℕ) (type : DataType) → Object
  ProcedureName : (number : ℕ) (parameters : List Parameter) → Object

-- what each name that is declared in a scope stands for
abbrev pub Scope : Type 0
Scope = Name → Option Object

-- a scope that declares nothing
abbrev pub no_names : Scope
no_names name = None

-- a scope with one name more
abbrev pub with_name : Scope → Name → Object → Scope
with_name scope name object other = if bytes_eq name other then Some object else scope other

abbrev pub Environment : Type 0
Environment = List Scope

-- the first, or else the second
abbrev pub or_else : Option Object → Option Object → Option Object
or_else (Some o) other = Some o
or_else None other = other

-- what a name is declared as: inner names hide outer ones
abbrev pub found : Environment → Name → Option Object
found [] name = None
found (scope ∷ outer) name = or_else (scope name) (found outer name)

-- the innermost scope declares this name
abbrev pub is_declared : Environment → Name → Prelude.Bool
is_declared [] name = false
is_declared (scope ∷ outer) name = is_some (scope name)

-- with one name more in the innermost scope
abbrev pub declared : Environment → Name → Object → Environment
declared [] name object = with_name no_names name object ∷ []
declared (scope ∷ outer) name object = with_name scope name object ∷ outer

-- how many scopes there are: 1 is the outermost, 2 the module's
abbrev pub level : Environment → ℕ
level env = length env

-- a variable that the innermost scope declares: the module's scope stands in the outermost one
abbrev pub variable_in : Environment → ℕ → DataType → Object
variable_in (scope ∷ outermost ∷ []) position type = ModuleVariable position type
variable_in env position type = LocalVariable (level env) position type

-- the outermost scope
abbrev pub outermost : Scope
outermost =
    with_name (with_name (with_name (with_name no_names
    (codes "FALSE") (Constant (Bool false)))
    (codes "TRUE") (Constant (Bool true)))
    (codes "BOOLEAN") (TypeName (Simple Boolean)))
    (codes "INTEGER") (TypeName (Simple Integer))

-- the names that a module's text begins under: its own scope, still empty, in the outermost one
abbrev pub opening_names : Environment
opening_names = no_names ∷ outermost ∷ []

-- what a name stands for where it is used
pub data Meant : Type 0 where
  Nothing : Meant
  AConstant : (value : Scalar) → Meant
  AType : (type : DataType) → Meant
  AVariable : (slot : Slot) (type : DataType) → Meant
  -- a variable of a procedure around the innermost one
  FarVariable : Meant
  AProcedure : (number : ℕ) (parameters : List Parameter) → Meant

-- what an object stands for where there are so many scopes
abbrev pub meant_as : ℕ → Name → Option Object → Meant
meant_as here name None = Nothing
meant_as here name (Some (Constant value)) = AConstant value
meant_as here name (Some (TypeName type)) = AType type
meant_as here name (Some (ModuleVariable position type)) =
    AVariable (record { owner = OfModule; position = position; name = name }) type
meant_as here name (Some (LocalVariable level position type)) =
    if nat_eq level here
    then AVariable (record { owner = Own; position = position; name = name }) type
    else FarVariable
meant_as here name (Some (ProcedureName number parameters)) = AProcedure number parameters

abbrev pub meant : Environment → Name → Meant
meant env name = meant_as (level env) name (found env name)

-- the type of a variable or of a constant
abbrev pub type_meant : Meant → Option DataType
type_meant (AVariable slot type) = Some type
type_meant (AConstant value) = Some (Simple (type_of value))
type_meant _ = None
