-- A sequential run: from the object that is asked for and the bytes of a script to the bytes that are printed.
use Rattle.std.specs.Prelude.{◌≡◌, ◌≢◌, ℕ, Bool, true, false, List, [], map}
use Rattle.ob_checked.specs.Exports.{signatures}
use Rattle.ob_meaning.specs.ByNameObject.{State, replies_to}
use Rattle.ob_object_compile.specs.Asked.{Asked}
use Rattle.ob_object_compile.specs.Compilation.{ObjectParts, IsCompilation, IsCompileFault}
use Rattle.ob_object_compile.specs.Compilation as Compilation
use Rattle.ob_object_calls.specs.declared.sequential.SeqTextFault.{SeqTextFault}
use Rattle.ob_object_calls.specs.declared.sequential.SeqTextFault.TheVariants as Faults
use Rattle.ob_object_calls.specs.CallLines.{reply_lines}
use Rattle.ob_text_scripts.specs.Script.{IsScript, IsScriptFault}
use Rattle.ob_text_scripts.specs.declared.script.ScriptFault.{ScriptFault}
use Rattle.ob_text_scripts.specs.declared.script.ScriptFault.TheVariants as Script
use Rattle.ob_text_words.specs.ScriptCalls.{ScriptCall, object_call}
use Rattle.ob_typing.specs.Program.{Program}

-- what is asked for has an object
abbrev pub HasObject : Asked → Type 0
HasObject a = (object : ObjectParts) × IsCompilation a object

-- the printed bytes are the E lines of the replies to a script's calls, made one at a time in line order from a state, each with the
-- budget
abbrev pub PrintsReplies : Program → (budget : ℕ) → State → List ScriptCall → (output : List ℕ) → Type 0
PrintsReplies program budget opening calls output =
    output ≡ reply_lines [] (map (λ c. c.process) calls) (replies_to program budget opening (map object_call calls))

-- the printed bytes are the E lines of the replies that the meaning of the object's module gives to the script's calls, from the state
-- with which the object begins
pub record IsSequentialRun (a : Asked) (script output : List ℕ) : Type 0 where
  pub object : ObjectParts
  pub compiled : IsCompilation a object
  pub calls : List ScriptCall
  pub read : IsScript (signatures object.program) a.processes script calls
  pub prints : PrintsReplies object.program a.budget compiled.opens.state calls output

-- there is an object, and the script is none on its exports
pub record IsScriptFaultOf (a : Asked) (script : List ℕ) (fault : ScriptFault) : Type 0 where
  pub object : ObjectParts
  pub compiled : IsCompilation a object
  pub fails : IsScriptFault (signatures object.program) a.processes script fault

-- what each fault says of an object that is asked for and of a script
abbrev pub IsSeqTextFault : Asked → (script : List ℕ) → SeqTextFault → Type 0
IsSeqTextFault a script (Faults.Compile e) = IsCompileFault a e
IsSeqTextFault a script (Faults.Script e) = IsScriptFaultOf a script e
IsSeqTextFault a script Faults.NoMemory = Unit {0}

-- want of memory is told by its own variant alone
abbrev pub TellsMemoryApart : SeqTextFault → Type 0
TellsMemoryApart (Faults.Compile e) = Compilation.IsNumbered e
TellsMemoryApart (Faults.Script e) = e ≢ Script.NoMemory
TellsMemoryApart Faults.NoMemory = Unit {0}

abbrev pub is_want_of_memory : SeqTextFault → Bool
is_want_of_memory Faults.NoMemory = true
is_want_of_memory _ = false

-- a fault with a number, so no want of memory
abbrev pub IsNumbered : SeqTextFault → Type 0
IsNumbered fault = (is_want_of_memory fault ≡ false) × TellsMemoryApart fault

-- no output is a run of these
abbrev pub HasNoRun : Asked → (script : List ℕ) → Type 0
HasNoRun a script = (output : List ℕ) → IsSequentialRun a script output → ⊥

-- what is said with a fault: what the fault says; that where it has a number there is no run, whatever else is wrong; and that want of
-- memory is told by its own variant alone
pub record IsSeqRefusal (a : Asked) (script : List ℕ) (fault : SeqTextFault) : Type 0 where
  pub says : IsSeqTextFault a script fault
  pub none : IsNumbered fault → HasNoRun a script
  pub memory : TellsMemoryApart fault
