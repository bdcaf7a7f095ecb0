-- The faults of the parts of a compilation.
use Rattle.std.specs.Prelude.{◌≢◌, ◌<◌, length}
use Rattle.ob_meaning.specs.Same.{SameState}
use Rattle.ob_carry.specs.Carried.{AreCarriable, IsCarryFault, carried}
use Rattle.ob_carry.specs.declared.carrying.CarryFault.{CarryFault}
use Rattle.ob_carry.specs.declared.carrying.CarryFault.TheVariants as Carry
use Rattle.ob_check.specs.declared.module_text.TextFault.{TextFault}
use Rattle.ob_check.specs.declared.module_text.TextFault.TheVariants as Text
use Rattle.ob_code_machine.specs.declared.fault.CodeFault.{CodeFault}
use Rattle.ob_code_machine.specs.declared.fault.CodeFault.TheVariants as Code
use Rattle.ob_code_scheme.specs.Scheme.{code_of}
use Rattle.ob_mean.specs.Faults.{IsOpenFault}
use Rattle.ob_mean.specs.Sequences.{IsOpening}
use Rattle.ob_mean.specs.declared.openings.OpenFault.{OpenFault}
use Rattle.ob_mean.specs.declared.openings.OpenFault.TheVariants as Open
use Rattle.ob_object_compile.specs.Asked.{Beginning, ByBody, ByValues}
use Rattle.ob_object_compile.specs.Compilation.{most_instructions}
use Rattle.ob_object_compile.specs.declared.compiling.CompileFault.{CompileFault}
use Rattle.ob_object_compile.specs.declared.compiling.CompileFault.TheVariants as Faults
use Rattle.ob_meaning.specs.ByPositionStore.{Activation}
use Rattle.ob_typing.specs.Program.{Program}

-- why a program has no engine
abbrev pub IsEngineFault : Program → CompileFault → Type 0
IsEngineFault program Faults.TooLong = most_instructions < length (code_of program).instructions
IsEngineFault program Faults.NoMemory = Unit {0}
IsEngineFault program _ = ⊥

-- a state with which a program begins so, with each variable at its position
abbrev pub BeginsByPosition : Beginning → Program → Activation → Type 0
BeginsByPosition ByBody program state = IsOpening program state
BeginsByPosition (ByValues values) program state = AreCarriable program.variables values × SameState program (carried program values) state

-- why the module's body leaves no state with which it is to begin
abbrev pub IsBodyFault : Beginning → Program → OpenFault → Type 0
IsBodyFault ByBody program e = IsOpenFault program e × (e ≢ Open.NoMemory)
IsBodyFault (ByValues values) program e = ⊥

-- why it does not begin with values
abbrev pub IsValuesFault : Beginning → Program → CarryFault → Type 0
IsValuesFault ByBody program e = ⊥
IsValuesFault (ByValues values) program e = IsCarryFault program.variables values e × (e ≢ Carry.NoMemory)

-- why a program does not begin so, with each variable at its position
abbrev pub IsBeginningFault : Beginning → Program → CompileFault → Type 0
IsBeginningFault beginning program (Faults.Open e) = IsBodyFault beginning program e
IsBeginningFault beginning program (Faults.Carry e) = IsValuesFault beginning program e
IsBeginningFault beginning program Faults.NoMemory = Unit {0}
IsBeginningFault beginning program _ = ⊥

-- want of memory is told in one place

abbrev pub of_text : TextFault → CompileFault
of_text Text.NoMemory = Faults.NoMemory
of_text e = Faults.Text e

abbrev pub of_code : CodeFault → CompileFault
of_code Code.TooLong = Faults.TooLong
of_code Code.NoMemory = Faults.NoMemory

abbrev pub of_open : OpenFault → CompileFault
of_open Open.NoMemory = Faults.NoMemory
of_open e = Faults.Open e

abbrev pub of_carry : CarryFault → CompileFault
of_carry Carry.NoMemory = Faults.NoMemory
of_carry e = Faults.Carry e
