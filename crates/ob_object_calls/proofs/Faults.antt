-- What is said with the faults of a run, from what is said with those of its parts.
use Rattle.std.proofs.Common.{◌≡◌, ℕ, List, true, false, refl, subst}
use Rattle.ob_checked.specs.Exports.{signatures}
use Rattle.ob_object_compile.specs.Asked.{Asked}
use Rattle.ob_object_compile.specs.Compilation as Compilation
use Rattle.ob_object_compile.specs.Compilation.{IsCompilation, IsCompileFault, IsShort, ObjectParts}
use Rattle.ob_object_compile.specs.declared.compiling.CompileFault.{CompileFault}
use Rattle.ob_object_compile.specs.declared.compiling.CompileFault.TheVariants as Compile
use Rattle.ob_object_calls.specs.SequentialParts.{of_compile, of_script}
use Rattle.ob_object_calls.specs.SequentialRun.{HasNoRun, IsNumbered, IsSeqRefusal, IsSeqTextFault, IsSequentialRun, TellsMemoryApart}
use Rattle.ob_object_calls.specs.declared.sequential.SeqTextFault.TheVariants as Seq
use Rattle.ob_text_scripts.specs.Script.{IsScript, IsScriptFault}
use Rattle.ob_text_scripts.specs.declared.script.ScriptFault.{ScriptFault}
use Rattle.ob_text_scripts.specs.declared.script.ScriptFault.TheVariants as Script
use Rattle.ob_typing.specs.ModuleText.{IsModule}
use Rattle.ob_typing.specs.Program.{Program}

module _ (a : Asked) (script : List ℕ) where
  -- ---- no object

  compile_says : (e : CompileFault) → IsCompileFault a e → IsSeqTextFault a script (of_compile e)
  compile_says Compile.Processes h = h
  compile_says Compile.Budget h = h
  compile_says (Compile.Text e) h = h
  compile_says Compile.TooLong h = h
  compile_says (Compile.Open e) h = h
  compile_says (Compile.Carry e) h = h
  compile_says Compile.NoMemory h = tt

  compile_numbered : (e : CompileFault) → IsNumbered (of_compile e) → Compilation.IsNumbered e
  compile_numbered Compile.Processes h = h.1
  compile_numbered Compile.Budget h = h.1
  compile_numbered (Compile.Text e) h = h.1
  compile_numbered Compile.TooLong h = h.1
  compile_numbered (Compile.Open e) h = h.1
  compile_numbered (Compile.Carry e) h = h.1
  compile_numbered Compile.NoMemory h = let bad : true ≡ false = h.0 in cc

  compile_apart : (e : CompileFault) → Compilation.TellsMemoryApart e → TellsMemoryApart (of_compile e)
  compile_apart Compile.Processes h = (refl, h)
  compile_apart Compile.Budget h = (refl, h)
  compile_apart (Compile.Text e) h = (refl, h)
  compile_apart Compile.TooLong h = (refl, h)
  compile_apart (Compile.Open e) h = (refl, h)
  compile_apart (Compile.Carry e) h = (refl, h)
  compile_apart Compile.NoMemory h = tt

  pub compile_refused : (e : CompileFault) → Compilation.IsRefusal IsShort a e → IsSeqRefusal a script (of_compile e)
  compile_refused e h = record {
    says = compile_says e h.says;
    none = λ numbered output run. h.none (compile_numbered e numbered) run.object run.compiled;
    memory = compile_apart e h.memory;
  }

  -- ---- no script

  module _ (o : ObjectParts) (compiled : IsCompilation a o) (alone : (other : Program) → IsModule a.text other → other ≡ o.program) where
    script_says : (e : ScriptFault) → IsScriptFault (signatures o.program) a.processes script e → IsSeqTextFault a script (of_script e)
    script_says (Script.Form line) h = record { object = o; compiled = compiled; fails = h }
    script_says (Script.Procedure line) h = record { object = o; compiled = compiled; fails = h }
    script_says (Script.Arguments line) h = record { object = o; compiled = compiled; fails = h }
    script_says (Script.Process line) h = record { object = o; compiled = compiled; fails = h }
    script_says Script.NoMemory h = tt

    script_apart : (e : ScriptFault) → TellsMemoryApart (of_script e)
    script_apart (Script.Form line) = λ same. cc
    script_apart (Script.Procedure line) = λ same. cc
    script_apart (Script.Arguments line) = λ same. cc
    script_apart (Script.Process line) = λ same. cc
    script_apart Script.NoMemory = tt

    read_again : {output : List ℕ} (run : IsSequentialRun a script output) → IsScript (signatures o.program) a.processes script run.calls
    read_again run = subst (λ (p : Program). IsScript (signatures p) a.processes script run.calls) (alone run.object.program run.compiled.is_module) run.read

    script_none : (e : ScriptFault) → IsScriptFault (signatures o.program) a.processes script e → IsNumbered (of_script e) → HasNoRun a script
    script_none (Script.Form line) h numbered output run = h.none tt run.calls (read_again run)
    script_none (Script.Procedure line) h numbered output run = h.none tt run.calls (read_again run)
    script_none (Script.Arguments line) h numbered output run = h.none tt run.calls (read_again run)
    script_none (Script.Process line) h numbered output run = h.none tt run.calls (read_again run)
    script_none Script.NoMemory h numbered output run = let bad : true ≡ false = numbered.0 in cc

    pub script_refused : (e : ScriptFault) → IsScriptFault (signatures o.program) a.processes script e → IsSeqRefusal a script (of_script e)
    script_refused e h = record { says = script_says e h; none = script_none e h; memory = script_apart e }

  -- ---- no memory

  pub memory_refused : IsSeqRefusal a script Seq.NoMemory
  memory_refused = record { says = tt; none = λ numbered output run. let bad : true ≡ false = numbered.0 in cc; memory = tt }
