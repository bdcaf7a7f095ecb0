-- The engine over the parts of some program: so it is where the program itself is not at hand.
use Rattle.std.specs.Prelude.{◌≡◌, ℤ, List, Some}
use Rattle.ob_interface.specs.Call.{ObjectCall, Reply}
use Rattle.ob_typing.specs.Program.{Program}
use Rattle.ob_meaning.specs.ByPositionStore.{Activation}
use Rattle.ob_meaning.specs.ByPositionObject.{effect}
use Rattle.ob_code_scheme.specs.WellFormed.{IsWellFormed}
use Rattle.ob_code_scheme.specs.Layout.{decoded, IsEncoding}
use Rattle.wf_history.specs.declared.event.CallId.{CallId}
use Rattle.wf_history.specs.History.{Event}
use Rattle.wf_history.specs.Legal.{IsLegal}
use Rattle.wf_table.specs.Law.{IsLawful}
use Rattle.ob_code_correct.specs.CodeMeaning.{EngineParts, code_meaning}
use Rattle.ob_code_correct.specs.Compiled.{parts_of, IsFitting, HasReserve, IsLawfulBlock, CallEnds, IsEffect}
use Rattle.ob_code_correct.specs.Carried.{BegunFit}

-- these are the parts of an engine for this program, with their budget
pub record IsCompiledTo (program : Program) (parts : EngineParts) : Type 0 where
  pub well : IsWellFormed program
  pub parts_are : parts ≡ parts_of program parts.budget

-- there is such a program
abbrev pub HasProgram : EngineParts → Type 0
HasProgram parts = (program : Program) × IsCompiledTo program parts

-- a block that is the encoding of a state of the program's variables
pub record IsLawfulFor (parts : EngineParts) (block : List ℤ) : Type 0 where
  pub program : Program
  pub compiled : IsCompiledTo program parts
  pub is : IsLawfulBlock program block

-- the program's call leads from the state of one block to the state of another, with this reply
pub record IsEffectOf (parts : EngineParts) (call : ObjectCall) (block after : List ℤ) (reply : Reply) : Type 0 where
  pub program : Program
  pub compiled : IsCompiledTo program parts
  pub is : IsEffect program parts.budget call block after reply

-- the engine is lawful
abbrev pub PartsAreLawful : Type 0
PartsAreLawful =
    (parts : EngineParts) → ∥ HasProgram parts ∥₁ →
    IsLawful (code_meaning parts) (IsLawfulFor parts) (IsFitting parts.exports) (HasReserve parts) (IsEffectOf parts)

-- and its effect is the call of each program that it is compiled of; so a program may be put in the place of its engine
abbrev pub EffectIsOfEach : Type 0
EffectIsOfEach =
    (program : Program) (parts : EngineParts) (call : ObjectCall) (before : Activation) (block after : List ℤ) (reply : Reply) →
    IsCompiledTo program parts → IsFitting parts.exports call → IsEncoding program.variables before block →
    IsEffectOf parts call block after reply →
    ((effect program call parts.budget before).reply ≡ reply) × IsEncoding program.variables (effect program call parts.budget before).state after

-- an order that is legal by the words of blocks, with the engine's effect, is legal by what the calls of each such program come to, and
-- leads to the state that the words are read as
abbrev pub PartsAreRead : Type 0
PartsAreRead =
    (program : Program) (parts : EngineParts) (opening last : Activation) (block words : List ℤ) (history : List (Event ObjectCall Reply)) (order : List CallId) →
    IsCompiledTo program parts → IsEncoding program.variables opening block → BegunFit (IsFitting parts.exports) history → decoded program.variables words ≡ Some last →
    ∥ IsLegal (IsEffectOf parts) block history order words ∥₁ → ∥ IsLegal (CallEnds program parts.budget) opening history order last ∥₁
