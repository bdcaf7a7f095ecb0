-- Values by position: a scalar, or parts in their order. Elements and fields are parts alike.
use Rattle.std.specs.Prelude.{ℕ, zero, suc, pos, List, [], ◌∷◌}
use Rattle.ob_interface.specs.declared.scalar.Scalar.{Scalar}
use Rattle.ob_interface.specs.declared.scalar.Scalar.TheVariants.{Int}
use Rattle.ob_typing.specs.Program.{DataType, Simple, Array, Record, Fields, no_field, field}
use Rattle.ob_meaning.specs.ByNameValue.{first_scalar}

mutual
  pub data Value : Type 0 where
    Single : (scalar : Scalar) → Value
    Parts : (parts : Values) → Value

  pub data Values : Type 0 where
    no_part : Values
    part : (first : Value) (rest : Values) → Values

abbrev pub zero_value : Value
zero_value = Single (Int (pos 0))

-- the scalar of a value that is one
abbrev pub scalar_of : Value → Scalar
scalar_of (Single s) = s
scalar_of v = Int (pos 0)

-- so many copies of a value
abbrev pub copies : ℕ → Value → Values
copies zero v = no_part
copies (suc n) v = part v (copies n v)

-- what a variable of a type begins as: 0 or FALSE throughout
abbrev mutual
  pub initial : DataType → Value
  initial (Simple type) = Single (first_scalar type)
  initial (Array place length element) = Parts (copies length (initial element))
  initial (Record place fields) = Parts (initial_fields fields)

  pub initial_fields : Fields → Values
  initial_fields no_field = no_part
  initial_fields (field name type rest) = part (initial type) (initial_fields rest)

-- the part at a position, or 0 where there is none, as never with a checked program
abbrev pub part_at : Values → ℕ → Value
part_at no_part i = zero_value
part_at (part v vs) zero = v
part_at (part v vs) (suc i) = part_at vs i

-- the part of a value at a position
abbrev pub inside : Value → ℕ → Value
inside (Parts vs) i = part_at vs i
inside (Single s) i = Single s

-- the part of a value behind positions, one within the other
abbrev pub selected : Value → List ℕ → Value
selected v [] = v
selected v (i ∷ path) = selected (inside v i) path

-- the parts with another one at a position
abbrev pub with_part : Values → ℕ → Value → Values
with_part no_part i w = no_part
with_part (part v vs) zero w = part w vs
with_part (part v vs) (suc i) w = part v (with_part vs i w)

-- the value with another part behind positions
abbrev pub replaced : Value → List ℕ → Value → Value
replaced v [] w = w
replaced (Parts vs) (i ∷ path) w = Parts (with_part vs i (replaced (part_at vs i) path w))
replaced (Single s) (i ∷ path) w = Single s
