-- What is told of calls whose lines are heard one at a time.
use Rattle.std.specs.Prelude.{◌≡◌, ◌≢◌, ◌⊎◌, ℕ, suc, true, List, [], ◌++◌, All, codes, decimal}
use Rattle.ob_checked.specs.Exports.{signatures}
use Rattle.ob_interface.specs.Export.{CallFits, Signature}
use Rattle.ob_object_live.specs.Living.{Ground, IsAt, IsMore, lines_at, record_at, remarked}
use Rattle.ob_object_live.specs.declared.live_parts.Live.{Live}
use Rattle.ob_text_record.specs.RecordText.{record_text}
use Rattle.ob_text_scripts.specs.Script.{IsScript, IsScriptFault, SaysNone}
use Rattle.ob_text_scripts.specs.declared.script.ScriptFault.{ScriptFault}
use Rattle.ob_text_scripts.specs.declared.script.ScriptFault.TheVariants as Faults
use Rattle.ob_text_words.specs.ScriptCalls.{ScriptCall, object_call}

-- what a fault of a line has for a number
abbrev pub fault_code : ScriptFault → List ℕ
fault_code (Faults.Form line) = codes "L1 line "
fault_code (Faults.Procedure line) = codes "L2 line "
fault_code (Faults.Arguments line) = codes "L3 line "
fault_code (Faults.Process line) = codes "L4 line "
fault_code Faults.NoMemory = codes "NoMemory line "

-- the line that tells it, with the number of the line among all, from 1
abbrev pub fault_text : (number : ℕ) → ScriptFault → List ℕ
fault_text number fault = fault_code fault ++ decimal number ++ codes "\n"

-- the text of the record of calls, each line a remark
abbrev pub record_told : Ground → List ScriptCall → List ℕ
record_told g calls = remarked true (record_text g.program (record_at g calls))

abbrev pub AllFit : List Signature → List ScriptCall → Type 0
AllFit signatures = All (λ c. CallFits signatures (object_call c))

-- A conversation behind these calls, from one state to another. A line is heard, and before anything else is heard it is told of: by the replies
-- to its call, or by its fault, with the number of the line, or by nothing where it makes no call. What is told of all calls so far is what is
-- told of calls that are made one at a time. Behind the last line, which may lack the line feed, the end is told.
module _ {C : Type 0} (Hears Tells : C → List ℕ → C → Type 0) (signatures : List Signature) (processes : ℕ) (lines_of : List ScriptCall → List ℕ)
    (IsEnd : List ScriptCall → List ℕ → Type 0) where
  pub data IsTalk : (calls : List ScriptCall) → (number : ℕ) → (before after : C) → Type 0 where
    ends : {calls : List ScriptCall} {number : ℕ} {before heard after : C} {text : List ℕ} → Hears before [] heard → IsEnd calls text →
        Tells heard text after → IsTalk calls number before after
    made : {calls more : List ScriptCall} {number : ℕ} {before heard told after : C} {line lines : List ℕ} → line ≢ [] → Hears before line heard →
        IsScript signatures processes line more → AllFit signatures (calls ++ more) → lines_of (calls ++ more) ≡ lines_of calls ++ lines →
        Tells heard lines told → IsTalk (calls ++ more) (suc number) told after → IsTalk calls number before after
    refused : {calls : List ScriptCall} {number : ℕ} {before heard told after : C} {line : List ℕ} {fault : ScriptFault} → line ≢ [] →
        Hears before line heard → IsScriptFault signatures processes line fault → SaysNone signatures processes fault →
        Tells heard (fault_text number fault) told → IsTalk calls (suc number) told after → IsTalk calls number before after

-- the same on a ground
abbrev pub EndsOn : Ground → List ScriptCall → List ℕ → Type 0
EndsOn g calls text = text ≡ record_told g calls

abbrev pub TalksOn : {C : Type 0} → (Hears Tells : C → List ℕ → C → Type 0) → Ground → (calls : List ScriptCall) → (number : ℕ) → (before after : C) → Type 0
TalksOn Hears Tells g = IsTalk Hears Tells (signatures g.program) g.processes (lines_at g) (EndsOn g)

-- what is told of one line: it is a script of calls, which were made, or it has a fault
module _ {C : Type 0} (Tells : C → List ℕ → C → Type 0) (g : Ground) (calls : List ScriptCall) where
  pub record IsLineMade (line : List ℕ) (before after : C) (next : Live) : Type 0 where
    pub more : List ScriptCall
    pub lines : List ℕ
    pub read : IsScript (signatures g.program) g.processes line more
    pub made : IsMore g calls more lines next
    pub told : Tells before lines after

  pub record IsLineRefused (number : ℕ) (line : List ℕ) (before after : C) (next : Live) : Type 0 where
    pub fault : ScriptFault
    pub fails : IsScriptFault (signatures g.program) g.processes line fault
    pub says : SaysNone (signatures g.program) g.processes fault
    pub at : IsAt g calls next
    pub told : Tells before (fault_text number fault) after

  abbrev pub TellsLine : (number : ℕ) → (line : List ℕ) → (before after : C) → Live → Type 0
  TellsLine number line before after next = IsLineMade line before after next ⊎ IsLineRefused number line before after next
