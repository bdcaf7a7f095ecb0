-- What doesn't fit of the arguments of a call.
use Rattle.std.specs.Prelude.{◌≡◌, ◌≢◌, ◌<◌, ℕ, List, length, slice_get, Option, Some, None}
use Rattle.ob_interface.specs.declared.scalar.Scalar.{Scalar}
use Rattle.ob_interface.specs.declared.scalar.ScalarType.{ScalarType}
use Rattle.ob_text_words.specs.Words.{Word}
use Rattle.ob_text_words.specs.Values.{IsValue}
use Rattle.ob_explain_arguments.specs.declared.misfit.Misfit.{Misfit}
use Rattle.ob_explain_arguments.specs.declared.misfit.Misfit.TheVariants.{Count, Value}

-- the word of this number says a value of the type of this number
pub record FitsAt (types : List ScalarType) (ws : List Word) (number : ℕ) : Type 0 where
  pub type : ScalarType
  pub word : Word
  pub value : Scalar
  pub wanted : slice_get types number ≡ Some type
  pub there : slice_get ws number ≡ Some word
  pub says : IsValue type word value

-- the word of this number says no value of this type, which is the one of this number
pub record MisfitsAt (types : List ScalarType) (ws : List Word) (number : ℕ) (type : ScalarType) : Type 0 where
  pub word : Word
  pub wanted : slice_get types number ≡ Some type
  pub there : slice_get ws number ≡ Some word
  pub says_none : (value : Scalar) → IsValue type word value → ⊥

-- there are as many words as types, and so many of them fit
pub record FitsUpTo (types : List ScalarType) (ws : List Word) (number : ℕ) : Type 0 where
  pub as_many : length ws ≡ length types
  pub fit : (k : ℕ) → k < number → FitsAt types ws k

-- what doesn't fit of words for values of these types: their number, or else the first one that says no value of its type
abbrev pub TellsMisfit : List ScalarType → List Word → Option Misfit → Type 0
TellsMisfit types ws None = FitsUpTo types ws (length ws)
TellsMisfit types ws (Some Count) = length ws ≢ length types
TellsMisfit types ws (Some (Value number type)) = FitsUpTo types ws number × MisfitsAt types ws number type
