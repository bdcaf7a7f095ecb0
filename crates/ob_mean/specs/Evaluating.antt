-- What the parts of an evaluation answer.
use Rattle.std.specs.Prelude.{◌≡◌, ℕ, Result, Ok, Err}
use Rattle.ob_interface.specs.declared.scalar.Scalar.{Scalar}
use Rattle.ob_interface.specs.declared.scalar.ScalarType.TheVariants.{Integer}
use Rattle.ob_typing.specs.Program as Programs
use Rattle.ob_typing.specs.Arithmetic.{Evaluated, Gives, Traps, ◌>>=◌, number_of}
use Rattle.ob_meaning.specs.OverStore.{within}
use Rattle.ob_checked.specs.declared.program.Selector.{Selector}
use Rattle.ob_checked.specs.declared.program.Selector.TheVariants.{Field, Element}
use Rattle.ob_checked.specs.View.{expression_of}
use Rattle.ob_mean.specs.declared.places.Stop.{Stop}
use Rattle.ob_mean.specs.declared.places.Stop.TheVariants as Stops
use Rattle.ob_meaning.specs.ByPositionValue.{Value, scalar_of, selected}
use Rattle.ob_meaning.specs.ByPositionStore.{Store}
use Rattle.ob_meaning.specs.ByPositionEvaluation.{value_of, path_of}

-- the scalar of a variable or a part of it
abbrev pub read_of : Store → Programs.Designator → Evaluated Scalar
read_of store variable = value_of store (Programs.ValueOf Integer variable)

-- the position that a selector leads to
abbrev pub position_of : Store → Selector → Evaluated ℕ
position_of store (Field position name) = Gives position
position_of store (Element length index) = do
  x ← value_of store (expression_of index)
  within length (number_of x)

-- the scalar behind selectors from a value on
abbrev pub read_behind : Store → Value → Programs.Selectors → Evaluated Scalar
read_behind store v selectors = do
  path ← path_of store selectors
  Gives (scalar_of (selected v path))

-- an evaluation gave what this stands for, trapped, or memory was wanted
abbrev pub Answers : {A B : Type 0} → (A → B) → Evaluated B → Result A Stop → Type 0
Answers view e (Ok a) = e ≡ Gives (view a)
Answers view e (Err (Stops.Trap k)) = e ≡ Traps k
Answers view e (Err Stops.NoMemory) = Unit {0}
