-- Values: a scalar, a list of elements, or a list of named fields.
use Rattle.std.specs.Prelude.{ℕ, zero, suc, pos, false, List, [], ◌∷◌, bytes_eq, if◌then◌else◌}
use Rattle.ob_interface.specs.declared.scalar.Scalar.{Scalar}
use Rattle.ob_interface.specs.declared.scalar.Scalar.TheVariants.{Int, Bool}
use Rattle.ob_interface.specs.declared.scalar.ScalarType.{ScalarType}
use Rattle.ob_interface.specs.declared.scalar.ScalarType.TheVariants.{Integer, Boolean}
use Rattle.ob_typing.specs.Program.{Name, DataType, Simple, Array, Record, Fields, no_field, field}

mutual
  pub data Value : Type 0 where
    Single : (scalar : Scalar) → Value
    Elements : (elements : Values) → Value
    Named : (fields : NamedValues) → Value

  pub data Values : Type 0 where
    no_value : Values
    value : (first : Value) (rest : Values) → Values

  pub data NamedValues : Type 0 where
    no_named : NamedValues
    named : (name : Name) (first : Value) (rest : NamedValues) → NamedValues

abbrev pub zero_value : Value
zero_value = Single (Int (pos 0))

-- the scalar of a value that is one
abbrev pub scalar_of : Value → Scalar
scalar_of (Single s) = s
scalar_of v = Int (pos 0)

-- 0 or FALSE
abbrev pub first_scalar : ScalarType → Scalar
first_scalar Integer = Int (pos 0)
first_scalar Boolean = Bool false

-- so many copies of a value
abbrev pub copies : ℕ → Value → Values
copies zero v = no_value
copies (suc n) v = value v (copies n v)

-- what a variable of a type begins as: 0 or FALSE throughout
abbrev mutual
  pub initial : DataType → Value
  initial (Simple type) = Single (first_scalar type)
  initial (Array place length element) = Elements (copies length (initial element))
  initial (Record place fields) = Named (initial_fields fields)

  pub initial_fields : Fields → NamedValues
  initial_fields no_field = no_named
  initial_fields (field name type rest) = named name (initial type) (initial_fields rest)

-- what a selector has become: a field's name, or an index that is within its array
pub data SelectorValue : Type 0 where
  Field : (name : Name) → SelectorValue
  Index : (index : ℕ) → SelectorValue

-- the element at an index, or 0 where there is none, as never with a checked program
abbrev pub element_at : Values → ℕ → Value
element_at no_value i = zero_value
element_at (value v vs) zero = v
element_at (value v vs) (suc i) = element_at vs i

-- the field of a name, or 0 where there is none, as never with a checked program
abbrev pub field_named : NamedValues → Name → Value
field_named no_named n = zero_value
field_named (named m v vs) n = if bytes_eq m n then v else field_named vs n

-- the part of a value behind one selector
abbrev pub part : Value → SelectorValue → Value
part (Elements vs) (Index i) = element_at vs i
part (Named vs) (Field n) = field_named vs n
part v s = v

-- the part of a value behind selectors
abbrev pub selected : Value → List SelectorValue → Value
selected v [] = v
selected v (s ∷ selectors) = selected (part v s) selectors

-- the elements with another one at an index
abbrev pub with_element : Values → ℕ → Value → Values
with_element no_value i w = no_value
with_element (value v vs) zero w = value w vs
with_element (value v vs) (suc i) w = value v (with_element vs i w)

-- the fields with another value at a name
abbrev pub with_field : NamedValues → Name → Value → NamedValues
with_field no_named n w = no_named
with_field (named m v vs) n w = if bytes_eq m n then named m w vs else named m v (with_field vs n w)

-- the value with another part behind one selector
abbrev pub with_part : Value → SelectorValue → Value → Value
with_part (Elements vs) (Index i) w = Elements (with_element vs i w)
with_part (Named vs) (Field n) w = Named (with_field vs n w)
with_part v s w = v

-- the value with another part behind selectors
abbrev pub replaced : Value → List SelectorValue → Value → Value
replaced v [] w = w
replaced v (s ∷ selectors) w = with_part v s (replaced (part v s) selectors w)
