-- What is printed of the state in which the machine stands behind a run from texts.
use Rattle.std.specs.Prelude.{◌≡◌, ℕ, List}
use Rattle.ob_checked.specs.Exports.{signatures}
use Rattle.ob_code_correct.specs.CodeMeaning.{code_meaning}
use Rattle.ob_code_correct.specs.Compiled.{HasReserve, IsFitting}
use Rattle.ob_code_correct.specs.Parts.{IsLawfulFor}
use Rattle.ob_code_machine.specs.Body.{Run}
use Rattle.ob_code_scheme.specs.Layout.{encoded}
use Rattle.ob_object_compile.specs.Compilation.{IsObjectOf, IsShort, ObjectParts}
use Rattle.ob_object_perform.specs.Texts.{Texts}
use Rattle.ob_text_words.specs.Schedule.{IsSchedule}
use Rattle.ob_text_words.specs.declared.item.Item.{Item}
use Rattle.ob_text_scripts.specs.Script.{IsScript}
use Rattle.ob_text_record.specs.StateText.{state_text}
use Rattle.ob_text_words.specs.ScriptCalls.{ScriptCall}
use Rattle.wf_play.specs.Played.{IsPlayed, scripts_of}
use Rattle.wf_table.specs.declared.process.Sizes.{Sizes}
use Rattle.wf_table.specs.Object.{State}
use Rattle.wf_table.specs.Start.{sizes_of}

-- the object stands there when these calls are submitted and then exactly the steps are taken that these items stand for
abbrev pub IsStateBehind : ObjectParts → List ScriptCall → List Item → State Run → Type 0
IsStateBehind o calls items s =
    IsPlayed (code_meaning o.engine) (IsLawfulFor o.engine) (IsFitting o.engine.exports) (HasReserve o.engine) o.processes (encoded o.opening)
    (scripts_of calls) items s

-- how many processes the object has, and how many words
abbrev pub sizes_in : ObjectParts → Sizes
sizes_in o = sizes_of (code_meaning o.engine) o.processes

-- the bytes are the text of the state of the object that is asked for, behind the calls of the scripts and the items of the schedule
pub record IsStatePrinted (t : Texts) (output : List ℕ) : Type 0 where
  pub object : ObjectParts
  pub compiled : IsObjectOf IsShort t.asked object
  pub calls : List ScriptCall
  pub calls_are : IsScript (signatures object.program) t.asked.processes t.scripts calls
  pub items : List Item
  pub items_are : IsSchedule t.asked.processes t.schedule items
  pub state : State Run
  pub behind : IsStateBehind object calls items state
  pub printed : output ≡ state_text (sizes_in object) state
