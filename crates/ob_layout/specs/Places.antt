-- Places of the module: a part of a variable, told by positions, fields' and indices, one within the other.
use Rattle.std.specs.Prelude.{◌≡◌, ℕ, List, Some, slice_get}
use Rattle.ob_interface.specs.declared.scalar.Scalar.{Scalar}
use Rattle.ob_interface.specs.declared.scalar.ScalarType.{ScalarType}
use Rattle.ob_typing.specs.Program.{DataType, Simple, Variable}
use Rattle.ob_meaning.specs.ByPositionValue.{Value, Single, selected}
use Rattle.ob_meaning.specs.ByPositionStore.{Activation, held_at, value_held}
use Rattle.ob_code_scheme.specs.Types.{variables_scope, IsScalarOf, IsPath, IsPlaceIn, IsStateOf}
use Rattle.ob_code_scheme.specs.Layout.{word, encoded}
use Rattle.ob_code_scheme.specs.Memory.{part_word}

-- from a type these positions lead to a part of it
abbrev pub HasPart : DataType → List ℕ → Type 0
HasPart from path = (to : DataType) × IsPath from path to

-- these positions lead to a part of the variable at a position
abbrev pub HasPlace : List Variable → ℕ → List ℕ → Type 0
HasPlace variables position path = (type : DataType) × IsPlaceIn (variables_scope variables) position path type

-- what a state has at a place
abbrev pub value_there : Activation → ℕ → List ℕ → Value
value_there state position path = selected (value_held (held_at state position)) path

-- a state has a scalar of this type at a place, and the word there is that scalar's
pub record HoldsScalar (variables : List Variable) (state : Activation) (position : ℕ) (path : List ℕ) (type : ScalarType) : Type 0 where
  pub scalar : Scalar
  pub value_is : value_there state position path ≡ Single scalar
  pub typed : IsScalarOf type scalar
  pub word_is : slice_get (encoded state) (part_word variables position path) ≡ Some (word scalar)

-- the words of a state have each scalar at the word of its place
abbrev pub WordsHoldScalars : Type 0
WordsHoldScalars =
    (variables : List Variable) (state : Activation) (position : ℕ) (path : List ℕ) (type : ScalarType) → IsStateOf variables state →
    IsPlaceIn (variables_scope variables) position path (Simple type) → HoldsScalar variables state position path type
