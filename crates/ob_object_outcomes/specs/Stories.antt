-- What happens along calls, as lines of records.
use Rattle.std.specs.Prelude.{◌≡◌, ℕ, ◌-◌, List, [], ◌∷◌, ◌++◌, get_or, slice_get, Option, None, Some}
use Rattle.ob_checked.specs.Exports.{signatures}
use Rattle.ob_interface.specs.Call.{ObjectCall}
use Rattle.ob_object_outcomes.specs.Scripted.{ScriptedParts}
use Rattle.ob_meaning.specs.ByPositionObject.{effect}
use Rattle.ob_meaning.specs.ByPositionStore.{Activation}
use Rattle.ob_text_words.specs.ReplyLines.{reply_line}
use Rattle.ob_text_record.specs.RecordText.{begin_text}
use Rattle.ob_text_record.specs.Variables.{opening_text, state_text}
use Rattle.ob_typing.specs.Program.{Program}
use Rattle.wf_history.specs.declared.event.CallId.{CallId}

-- the call of this name in the scripts, if there is one
abbrev pub called : List (List ObjectCall) → CallId → Option ObjectCall
called scripts id = slice_get (get_or scripts id.process []) (id.number - 1)

-- of calls on a program's object, each with a budget of turns
module _ (program : Program) (budget : ℕ) where
  -- what happens at a call on a state: its B line, its E line, and the V lines of the variables behind it
  abbrev pub made_lines : CallId → ObjectCall → Activation → List ℕ
  made_lines id call before =
      begin_text (signatures program) id call ++ reply_line id.process id.number (effect program call budget before).reply
      ++ state_text program.variables (effect program call budget before).state

  abbrev pub step_lines : CallId → Option ObjectCall → Activation → List ℕ
  step_lines id None before = []
  step_lines id (Some call) before = made_lines id call before

  -- the state behind it
  abbrev pub state_behind : Option ObjectCall → Activation → Activation
  state_behind None before = before
  state_behind (Some call) before = (effect program call budget before).state

  -- what happens at calls of these scripts, one after the other
  abbrev pub steps_lines : List (List ObjectCall) → List CallId → Activation → List ℕ
  steps_lines scripts [] before = []
  steps_lines scripts (id ∷ ids) before = step_lines id (called scripts id) before ++ steps_lines scripts ids (state_behind (called scripts id) before)

-- the I lines of the variables at the beginning, and what happens at these calls, one after the other
abbrev pub story_lines : ScriptedParts → List CallId → List ℕ
story_lines s path =
    opening_text s.object.program.variables s.object.opening ++ steps_lines s.object.program s.object.engine.budget s.scripts path s.object.opening

-- the same, and words behind it
abbrev pub TellsStory : ScriptedParts → List CallId → (text : List ℕ) → Type 0
TellsStory s path text = (words : List ℕ) × (text ≡ story_lines s path ++ words)
