-- The layout of a module: where its variables begin, the words of values and states, and how they are read from words.
use Rattle.std.specs.Prelude.{◌≡◌, ℕ, zero, suc, ℤ, pos, negsuc, int_le, ◌&&◌, true, false, List, [], ◌∷◌, ◌++◌, map, Option, Some, None, if◌then◌else◌}
use Rattle.std.specs.Ordering.{int_eq}
use Rattle.ob_interface.specs.declared.scalar.Scalar.{Scalar}
use Rattle.ob_interface.specs.declared.scalar.Scalar.TheVariants.{Int, Bool}
use Rattle.ob_interface.specs.declared.scalar.ScalarType.{ScalarType}
use Rattle.ob_interface.specs.declared.scalar.ScalarType.TheVariants.{Integer, Boolean}
use Rattle.ob_typing.specs.Program.{DataType, Simple, Array, Record, Fields, no_field, field, Variable, Program}
use Rattle.ob_meaning.specs.ByPositionValue.{Value, Single, Parts, Values, no_part, part}
use Rattle.ob_meaning.specs.ByPositionStore.{Activation, Holds, value_held}
use Rattle.ob_code_scheme.specs.Types.{extent, word_in, variables_scope, IsStateOf}
use Rattle.ob_code_scheme.specs.Temporaries.{frame_words, stack_words}

-- the words of variables
abbrev pub variable_words : List Variable → ℕ
variable_words variables = extent (variables_scope variables)

-- the first word of the variable at a position
abbrev pub word_of : List Variable → ℕ → ℕ
word_of variables position = word_in (variables_scope variables) position

pub record LayoutParts : Type 0 where
  pub variables : List Variable
  pub frames : List ℕ  -- of each procedure the words of its frame
  pub stack_words : ℕ

abbrev pub layout_of : Program → LayoutParts
layout_of program = record {
  variables = program.variables;
  frames = map frame_words program.procedures;
  stack_words = stack_words program.procedures;
}

-- ---- the words of values

-- TRUE is 1 and FALSE is 0
abbrev pub word : Scalar → ℤ
word (Int z) = z
word (Bool true) = pos 1
word (Bool false) = pos 0

-- the words of a value: those of its parts in their order
abbrev mutual
  pub flat : Value → List ℤ
  flat (Single s) = word s ∷ []
  flat (Parts vs) = flat_all vs

  pub flat_all : Values → List ℤ
  flat_all no_part = []
  flat_all (part v vs) = flat v ++ flat_all vs

-- the words of a state: its variables in text order
abbrev pub encoded : Activation → List ℤ
encoded [] = []
encoded (h ∷ state) = flat (value_held h) ++ encoded state

-- these words are of this state
pub record IsEncoding (variables : List Variable) (state : Activation) (words : List ℤ) : Type 0 where
  pub typed : IsStateOf variables state
  pub words_are : words ≡ encoded state

-- ---- how states are read from words, one variable after the other

infixl 10 ◌>>=◌
-- goes on with what was read
abbrev pub ◌>>=◌ : {A B : Type 0} → Option A → (A → Option B) → Option B
◌>>=◌ None go = None
◌>>=◌ (Some a) go = go a

-- the scalar of a type, where a word is one
abbrev pub scalar_in : ScalarType → ℤ → Option Scalar
scalar_in Integer z = if int_le (negsuc 2147483647) z && int_le z (pos 2147483647) then Some (Int z) else None
scalar_in Boolean z =
    if int_eq z (pos 0) then Some (Bool false) else if int_eq z (pos 1) then Some (Bool true) else None

-- so many parts, one after the other
abbrev pub parts_in : (List ℤ → Option (Value × List ℤ)) → ℕ → List ℤ → Option (Values × List ℤ)
parts_in read zero words = Some (no_part, words)
parts_in read (suc n) words = do
  first ← read words
  rest ← parts_in read n first.1
  Some (part first.0 rest.0, rest.1)

abbrev pub single_in : ScalarType → List ℤ → Option (Value × List ℤ)
single_in type [] = None
single_in type (w ∷ words) = do
  s ← scalar_in type w
  Some (Single s, words)

-- the value of a type that words begin with, and the words behind it
abbrev mutual
  pub value_in : DataType → List ℤ → Option (Value × List ℤ)
  value_in (Simple type) words = single_in type words
  value_in (Array place length element) words = do
    read ← parts_in (λ ws. value_in element ws) length words
    Some (Parts read.0, read.1)
  value_in (Record place fields) words = do
    read ← fields_in fields words
    Some (Parts read.0, read.1)

  pub fields_in : Fields → List ℤ → Option (Values × List ℤ)
  fields_in no_field words = Some (no_part, words)
  fields_in (field name type rest) words = do
    first ← value_in type words
    others ← fields_in rest first.1
    Some (part first.0 others.0, others.1)

-- the state of variables that words are of
abbrev pub decoded : List Variable → List ℤ → Option Activation
decoded [] [] = Some []
decoded [] (w ∷ words) = None
decoded (v ∷ variables) words = do
  read ← value_in v.type words
  state ← decoded variables read.1
  Some (Holds read.0 ∷ state)
