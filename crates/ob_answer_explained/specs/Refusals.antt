-- With which fault bytes are refused: the fault has a number, so it is no want of memory; what it says of them is true; and they have nothing
-- of what is asked for, whatever else is wrong with them.
use Rattle.std.specs.Prelude.{ℕ, List}
use Rattle.ob_object_compile.specs.Asked.{Asked}
use Rattle.ob_object_compile.specs.Compilation as Compiles
use Rattle.ob_object_compile.specs.Compilation.{IsShort}
use Rattle.ob_object_compile.specs.declared.compiling.CompileFault.{CompileFault}
use Rattle.ob_object_perform.specs.Performance as Performs
use Rattle.ob_object_perform.specs.Texts.{Texts}
use Rattle.ob_object_perform.specs.declared.performing.PerformFault.{PerformFault}
use Rattle.ob_object_calls.specs.SequentialRun as Sequences
use Rattle.ob_object_calls.specs.SequentialRun.{IsSeqRefusal}
use Rattle.ob_object_calls.specs.declared.sequential.SeqTextFault.{SeqTextFault}
use Rattle.ob_object_calls.specs.Verified.{IsVerified}
use Rattle.ob_object_calls.specs.VerifyFaults as Verifies
use Rattle.ob_object_calls.specs.VerifyFaults.{IsVerifyFault}
use Rattle.ob_object_calls.specs.declared.verifying.VerifyFault.{VerifyFault}

-- an object that is asked for
abbrev pub RefusesObject : Asked → CompileFault → Type 0
RefusesObject a e = Compiles.IsRefusal IsShort a e × Compiles.IsNumbered e

-- the calls of a script on it, made one at a time
abbrev pub RefusesCalls : Asked → (script_bytes : List ℕ) → SeqTextFault → Type 0
RefusesCalls a script_bytes e = IsSeqRefusal a script_bytes e × Sequences.IsNumbered e

-- a run
abbrev pub RefusesRun : Texts → PerformFault → Type 0
RefusesRun t e = Performs.IsRefusal IsShort t e × Performs.IsNumbered e

-- the order of a record
pub record RefusesRecord (module_bytes record_bytes : List ℕ) (e : VerifyFault) : Type 0 where
  pub says : IsVerifyFault module_bytes record_bytes e
  pub none : IsVerified module_bytes record_bytes → ⊥
  pub numbered : Verifies.IsNumbered e
