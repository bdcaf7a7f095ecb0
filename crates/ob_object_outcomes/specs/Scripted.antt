-- An object that is asked for, with scripts of calls on it: from bytes.
use Rattle.std.specs.Prelude.{◌≡◌, ℕ, List, All}
use Rattle.ob_checked.specs.Exports.{signatures}
use Rattle.ob_interface.specs.Call.{ObjectCall}
use Rattle.ob_interface.specs.Export.{CallFits}
use Rattle.ob_object_compile.specs.Asked.{Asked}
use Rattle.ob_object_compile.specs.Compilation.{ObjectParts, IsCompilation}
use Rattle.ob_object_compile.specs.View.{object_in}
use Rattle.ob_object_outcomes.specs.declared.scripted.Scripted as Rust
use Rattle.ob_object_outcomes.specs.Scripts.{scripts_by}
use Rattle.ob_text_scripts.specs.Script.{IsScript}
use Rattle.ob_text_words.specs.ScriptCalls.{ScriptCall}
use Rattle.wf_outcomes.specs.Explored.{calls_in}

-- an object, and what each process calls on it
pub record ScriptedParts : Type 0 where
  pub object : ObjectParts
  pub scripts : List (List ObjectCall)

abbrev pub scripted_in : Rust.Scripted → ScriptedParts
scripted_in s = record { object = object_in s.object; scripts = calls_in s.scripts.items }

-- the object is the one that is asked for, and each process calls what the lines of the text say of it
pub record IsScripted (a : Asked) (script : List ℕ) (s : ScriptedParts) : Type 0 where
  pub compiled : IsCompilation a s.object
  pub calls : List ScriptCall
  pub read : IsScript (signatures s.object.program) a.processes script calls
  pub each : s.scripts ≡ scripts_by a.processes calls

-- each call fits the exports
abbrev pub AreFitting : ScriptedParts → Type 0
AreFitting s = All (All (CallFits (signatures s.object.program))) s.scripts
