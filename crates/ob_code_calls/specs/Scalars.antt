-- States whose variables hold scalars alone.
use Rattle.std.specs.Prelude.{◌≡◌, ℕ, ℤ, List, Option, Some, None, map}
use Rattle.ob_checked.specs.Types.{Entry}
use Rattle.ob_checked.specs.View.{variable_of}
use Rattle.ob_checked.specs.declared.program.Variable as Declared
use Rattle.ob_interface.specs.Call.{ObjectCall, Reply}
use Rattle.ob_interface.specs.declared.scalar.Scalar.{Scalar}
use Rattle.ob_interface.specs.declared.scalar.ScalarType.{ScalarType}
use Rattle.ob_typing.specs.Program.{DataType, Program, Simple}
use Rattle.ob_meaning.specs.ByPositionStore.{Held, Holds}
use Rattle.ob_meaning.specs.ByPositionValue.{Single}
use Rattle.ob_code_calls.specs.Calls.{IsMadeThrough}
use Rattle.ob_code_calls.specs.declared.scalar_calls.Work.{Work}
use Rattle.ob_code_correct.specs.CodeMeaning.{EngineParts}
use Rattle.ob_code_correct.specs.Compiled.{CallEnds}
use Rattle.ob_code_correct.specs.Parts.{IsCompiledTo}
use Rattle.ob_code_scheme.specs.Layout.{IsEncoding, decoded, word, scalar_in}
use Rattle.ob_code_scheme.specs.Types.{IsValueOf}

-- a variable that holds a scalar
abbrev pub held_of : Scalar → Held
held_of scalar = Holds (Single scalar)

-- the scalar is a value of the type, and this is its word
pub record IsLaidAs (type : DataType) (scalar : Scalar) (w : ℤ) : Type 0 where
  pub typed : IsValueOf type (Single scalar)
  pub word_is : w ≡ word scalar

-- the type is a scalar's, and its value that the word is
pub record IsReadAs (type : DataType) (w : ℤ) (scalar : Scalar) : Type 0 where
  pub scalar_type : ScalarType
  pub simple : type ≡ Simple scalar_type
  pub read : scalar_in scalar_type w ≡ Some scalar

-- the code is that of a program with these variables
pub record IsCodeWith (variables : List Declared.Variable) (parts : EngineParts) : Type 0 where
  pub program : Program
  pub types : List Entry
  pub compiled : IsCompiledTo program parts
  pub are : map (variable_of types) variables ≡ program.variables

-- the call leads from variables that hold these scalars to variables that hold those, with this reply
abbrev pub IsMadeOf : Program → EngineParts → ObjectCall → (before after : List Scalar) → Reply → Type 0
IsMadeOf program parts call before after reply = CallEnds program parts.budget call (map held_of before) (map held_of after) reply

-- these are the values of variables behind a call that trapped so, if it trapped: those whose words the block has, or the ones before it
abbrev pub AreBehind : List Declared.Variable → (before : List Scalar) → (block : List ℤ) → (trap : Option ℕ) → (after : List Scalar) → Type 0
AreBehind variables before block None after = (types : List Entry) → decoded (map (variable_of types) variables) block ≡ Some (map held_of after)
AreBehind variables before block (Some number) after = after ≡ before

-- the call was made on the block of variables that hold these scalars, in this room and on this block, and trapped so, if it trapped
pub record IsMadeOn (program : Program) (parts : EngineParts) (call : ObjectCall) (before : List Scalar) (work : Work) (trap : Option ℕ) : Type 0 where
  pub block : List ℤ
  pub laid : IsEncoding program.variables (map held_of before) block
  pub through : IsMadeThrough program parts call (map held_of before) block work.block.items work.room.run trap
