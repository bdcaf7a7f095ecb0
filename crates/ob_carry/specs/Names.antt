-- The value by name that a value by position of a type is.
use Rattle.std.specs.Prelude.{◌≡◌, ℕ}
use Rattle.ob_typing.specs.Program.{DataType, Fields}
use Rattle.ob_meaning.specs.ByNameValue.{Value, Values, NamedValues}
use Rattle.ob_meaning.specs.ByPositionValue as Positions
use Rattle.ob_meaning.specs.Same.{SameElements, SameFields, SameValue}
use Rattle.ob_carry.specs.Values.{AreElements, AreFieldsOf, IsValueOf}

-- whatever value by name is the same, it is this one, and a value of the type
abbrev pub IsNameOf : DataType → Value → Positions.Value → Type 0
IsNameOf type v w = (u : Value) → SameValue type u w → (u ≡ v) × IsValueOf type v

-- so are elements of a type
abbrev pub AreNamesOf : DataType → Values → Positions.Values → Type 0
AreNamesOf type vs ws = (n : ℕ) (us : Values) → SameElements (SameValue type) n us ws → (us ≡ vs) × AreElements (λ v. IsValueOf type v) n vs

-- and the fields of a record
abbrev pub AreFieldNamesOf : Fields → NamedValues → Positions.Values → Type 0
AreFieldNamesOf fields vs ws = (us : NamedValues) → SameFields fields us ws → (us ≡ vs) × AreFieldsOf fields vs
