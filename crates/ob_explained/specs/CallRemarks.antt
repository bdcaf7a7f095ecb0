-- What is said of a call of a script that names no export, or whose values don't fit.
use Rattle.std.specs.Prelude.{◌≡◌, ℕ, List, Option, Some, None}
use Rattle.ob_checked.specs.Exports.{signatures}
use Rattle.ob_interface.specs.Export.{Signature}
use Rattle.ob_text_scripts.specs.declared.script.ScriptFault.{ScriptFault}
use Rattle.ob_text_scripts.specs.declared.script.ScriptFault.TheVariants as Script
use Rattle.ob_text_words.specs.Words.{words}
use Rattle.ob_typing.specs.ModuleText.{IsModule}
use Rattle.ob_typing.specs.Program.{Program}
use Rattle.ob_explain_sentences.specs.Places.{line_from}
use Rattle.ob_explain_sentences.specs.Remarks.{Remark, at}
use Rattle.ob_explain_arguments.specs.Calls.{IsToldOf, Told}
use Rattle.ob_explained.specs.ScriptPlaces.{in_line, line_begin, told_place}
use Rattle.ob_explained.specs.ScriptRemarks.{script_remark}

-- what is told of the words of a line, at the name or at a value; where nothing is, what the fault says by itself
abbrev pub told_remark : (script : List ℕ) → (line : ℕ) → ScriptFault → Option Told → Option Remark
told_remark script line fault None = script_remark script fault
told_remark script line fault (Some told) = at (in_line (told_place told.value) script line) told.sentence

-- where these are the exports
pub record IsExportsRemark (text : List ℕ) (exports : List Signature) (script : List ℕ) (line : ℕ) (fault : ScriptFault) (remark : Option Remark) : Type 0 where
  pub told : Option Told
  pub tells : IsToldOf text exports (words (line_from script (line_begin script line))) told
  pub says : remark ≡ told_remark script line fault told

-- where this is the module's text; where it is none, what the fault says by itself
pub data IsCallRemark (text script : List ℕ) (line : ℕ) (fault : ScriptFault) : Option Remark → Type 0 where
  of_module : (program : Program) → IsModule text program → {remark : Option Remark} →
      IsExportsRemark text (signatures program) script line fault remark → IsCallRemark text script line fault remark
  of_none : ((program : Program) → IsModule text program → ⊥) → IsCallRemark text script line fault (script_remark script fault)

-- the remark on a fault of a script for the exports of a module's text
abbrev pub IsScriptRemark : (text script : List ℕ) → ScriptFault → Option Remark → Type 0
IsScriptRemark text script (Script.Procedure line) remark = IsCallRemark text script line (Script.Procedure line) remark
IsScriptRemark text script (Script.Arguments line) remark = IsCallRemark text script line (Script.Arguments line) remark
IsScriptRemark text script fault remark = remark ≡ script_remark script fault
