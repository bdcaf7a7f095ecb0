-- Values of parameters: the words that say them.
use Rattle.std.specs.Prelude.{◌≡◌, ℤ, true, false, not, List, [], ◌∷◌}
use Rattle.std.specs.Prelude as Prelude
use Rattle.ob_interface.specs.declared.export.Formal.{Formal}
use Rattle.ob_interface.specs.declared.scalar.Scalar.{Scalar}
use Rattle.ob_interface.specs.declared.scalar.Scalar.TheVariants.{Int, Bool}
use Rattle.ob_interface.specs.declared.scalar.ScalarType.{ScalarType}
use Rattle.ob_interface.specs.declared.scalar.ScalarType.TheVariants.{Integer, Boolean}
use Rattle.ob_interface.specs.Export.{value_types, var_types}
use Rattle.ob_text_words.specs.ScalarTexts.{truth_text}
use Rattle.ob_text_words.specs.Words.{Word, IsInteger}

-- a value of a type
pub data IsValue : ScalarType → Word → Scalar → Type 0 where
  integer : {word : Word} {z : ℤ} → IsInteger word z → IsValue Integer word (Int z)
  boolean : {word : Word} {b : Prelude.Bool} → word ≡ truth_text b → IsValue Boolean word (Bool b)

-- values of these types, one by one
pub data AreValues : List ScalarType → List Word → List Scalar → Type 0 where
  none : AreValues [] [] []
  more : {type : ScalarType} {types : List ScalarType} {word : Word} {ws : List Word} {s : Scalar} {ss : List Scalar} →
      IsValue type word s → AreValues types ws ss → AreValues (type ∷ types) (word ∷ ws) (s ∷ ss)

-- a VAR parameter, or a value parameter
abbrev pub is_of_mode : Prelude.Bool → Formal → Prelude.Bool
is_of_mode true f = f.is_var
is_of_mode false f = not f.is_var

-- the types of the parameters of one mode
abbrev pub types_of : Prelude.Bool → List Formal → List ScalarType
types_of true formals = var_types formals
types_of false formals = value_types formals
