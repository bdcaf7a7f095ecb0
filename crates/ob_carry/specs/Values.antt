-- When a named value is one of a type, and when a value by position is the same one.
use Rattle.std.specs.Prelude.{◌≡◌, ℕ, zero, suc, ℤ, pos, neg_ℤ, ◌≤ℤ◌, Option, Some, None}
use Rattle.ob_interface.specs.declared.scalar.Scalar.{Scalar}
use Rattle.ob_interface.specs.declared.scalar.Scalar.TheVariants.{Int, Bool}
use Rattle.ob_interface.specs.declared.scalar.ScalarType.{ScalarType}
use Rattle.ob_interface.specs.declared.scalar.ScalarType.TheVariants.{Integer, Boolean}
use Rattle.ob_typing.specs.Program.{DataType, Simple, Array, Record, Fields, no_field, field}
use Rattle.ob_meaning.specs.ByNameValue.{Value, Single, Elements, Named, Values, no_value, value, NamedValues, no_named, named}
use Rattle.ob_meaning.specs.ByPositionValue as Positions
use Rattle.ob_meaning.specs.Same.{SameValue, SameElements, SameFields}

-- from -2147483648 to 2147483647
pub record IsInteger (z : ℤ) : Type 0 where
  pub low : neg_ℤ (pos 2147483648) ≤ℤ z
  pub high : z ≤ℤ pos 2147483647

-- a scalar of a type
abbrev pub IsScalarOf : ScalarType → Scalar → Type 0
IsScalarOf Integer (Int z) = IsInteger z
IsScalarOf Boolean (Bool b) = Unit {0}
IsScalarOf Integer (Bool b) = ⊥
IsScalarOf Boolean (Int z) = ⊥

-- so many elements, each of a kind
abbrev pub AreElements : (Value → Type 0) → ℕ → Values → Type 0
AreElements Is zero no_value = Unit {0}
AreElements Is zero (value v vs) = ⊥
AreElements Is (suc n) no_value = ⊥
AreElements Is (suc n) (value v vs) = Is v × AreElements Is n vs

-- a value of a type: an array has so many elements, a record the fields of these names in this order
abbrev mutual
  pub IsValueOf : DataType → Value → Type 0
  IsValueOf (Simple type) (Single s) = IsScalarOf type s
  IsValueOf (Simple type) (Elements vs) = ⊥
  IsValueOf (Simple type) (Named fs) = ⊥
  IsValueOf (Array place length element) (Single s) = ⊥
  IsValueOf (Array place length element) (Elements vs) = AreElements (λ v. IsValueOf element v) length vs
  IsValueOf (Array place length element) (Named fs) = ⊥
  IsValueOf (Record place fields) (Single s) = ⊥
  IsValueOf (Record place fields) (Elements vs) = ⊥
  IsValueOf (Record place fields) (Named fs) = AreFieldsOf fields fs

  pub AreFieldsOf : Fields → NamedValues → Type 0
  AreFieldsOf no_field no_named = Unit {0}
  AreFieldsOf no_field (named other v fs) = ⊥
  AreFieldsOf (field name type rest) no_named = ⊥
  AreFieldsOf (field name type rest) (named other v fs) = (other ≡ name) × (IsValueOf type v × AreFieldsOf rest fs)

-- the same value by position, or none where the named value is none of the type
abbrev pub IsFitted : DataType → Value → Option Positions.Value → Type 0
IsFitted type v None = IsValueOf type v → ⊥
IsFitted type v (Some w) = IsValueOf type v × SameValue type v w

-- the same of so many elements
abbrev pub AreFittedElements : DataType → ℕ → Values → Option Positions.Values → Type 0
AreFittedElements element n vs None = AreElements (λ v. IsValueOf element v) n vs → ⊥
AreFittedElements element n vs (Some ws) = AreElements (λ v. IsValueOf element v) n vs × SameElements (SameValue element) n vs ws

-- the same of fields
abbrev pub AreFittedFields : Fields → NamedValues → Option Positions.Values → Type 0
AreFittedFields fields vs None = AreFieldsOf fields vs → ⊥
AreFittedFields fields vs (Some ws) = AreFieldsOf fields vs × SameFields fields vs ws
