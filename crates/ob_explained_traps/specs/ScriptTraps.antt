-- What is told of the traps of a script's calls: from the bytes of a module and of a script to the bytes that are printed.
use Rattle.std.specs.Prelude.{◌≡◌, ℕ, List, All, Option, map, option_map}
use Rattle.ob_checked.specs.Exports.{signatures}
use Rattle.ob_explained.specs.Sources.{Source, source_of}
use Rattle.ob_explained.specs.declared.named_texts.Source as Rust
use Rattle.ob_meaning.specs.ByNameObject.{replies_to}
use Rattle.ob_object_compile.specs.Asked.{Asked}
use Rattle.ob_object_compile.specs.Compilation.{IsCompilation, ObjectParts}
use Rattle.ob_object_compile.specs.View.{object_in}
use Rattle.ob_object_compile.specs.declared.object.Object.{Object}
use Rattle.ob_text_scripts.specs.Script.{IsScript}
use Rattle.ob_text_words.specs.ScriptCalls.{ScriptCall, object_call, script_call_of}
use Rattle.ob_text_words.specs.declared.script_call.ScriptCall as Declared
use Rattle.ob_trap_places.specs.Sequence.{sites_from}
use Rattle.ob_trap_places.specs.TrapOfCall.{trap_of}
use Rattle.ob_trap_places.specs.Site.{Site}
use Rattle.ob_explained_traps.specs.CallLines.{call_lines}
use Rattle.ob_explained_traps.specs.NamedCalls.{Calls, OfScript}
use Rattle.ob_explained_traps.specs.TrapLines.{or_none, traps_lines}
use Rattle.ob_explained_traps.specs.TrapPlaces.{IsPlaced}

-- where the traps of these calls come from, made one at a time from the state with which the object begins, each with its budget
abbrev pub sites_of : ObjectParts → List ScriptCall → List (Option Site)
sites_of object calls = sites_from object.program object.engine.budget object.opening (map object_call calls)

-- the calls of a script, by their processes and the lines in which they stand
abbrev pub calls_in : (script : Source) → List ScriptCall → Calls
calls_in script calls = OfScript script.name (map (λ c. c.process) calls) (call_lines script.text)

-- what is printed of the calls of a script on an object
abbrev pub traps_text : (text script : Source) → ObjectParts → List ScriptCall → List ℕ
traps_text text script object calls =
    or_none (traps_lines (record { object = text; tree = object.tree; calls = calls_in script calls; budget = object.engine.budget }) (sites_of object calls))

-- the same of texts, an object and calls as the code has them
abbrev pub told_of_calls : (text script : Rust.Source) → Object → List Declared.ScriptCall → List ℕ
told_of_calls text script object calls = traps_text (source_of text) (source_of script) (object_in object) (map script_call_of calls)

-- The printed bytes are what is told of the calls of a script on the object that is asked for, whose module has this name. A call is
-- told of where the meaning replies with a trap, from the state with which the object begins, and with the number of that.
pub record IsTrapsText (module_name : List ℕ) (a : Asked) (script : Source) (output : List ℕ) : Type 0 where
  pub object : ObjectParts
  pub calls : List ScriptCall
  pub compiled : IsCompilation a object
  pub read : IsScript (signatures object.program) a.processes script.text calls
  pub trapped :
      map (option_map (λ site. site.number)) (sites_of object calls)
      ≡ map trap_of (replies_to object.program a.budget compiled.opens.state (map object_call calls))
  pub placed : All (IsPlaced object.tree) (sites_of object calls)
  pub printed : output ≡ traps_text (record { name = module_name; text = a.text }) script object calls
