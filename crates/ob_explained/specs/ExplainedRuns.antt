-- What is shown of a fault of a run that has a place in one of its texts.
use Rattle.std.specs.Global.{Global}
use Rattle.std.specs.Prelude.{◌≡◌, ℕ, List, Option, None, String, option_map, string_bytes}
use Rattle.ob_explain_sentences.specs.Remarks.{Remark}
use Rattle.ob_explained.specs.Explained.{IsObjectExplanation}
use Rattle.ob_explained.specs.RunRemarks.{IsAtItem, IsRunScriptRemark, IsScheduleRemark, long_item_sentence}
use Rattle.ob_explained.specs.Sources.{Source, shown_in, source_of}
use Rattle.ob_explained.specs.declared.named_texts.Source as Rust
use Rattle.ob_object_perform.specs.declared.performing.PerformFault.{PerformFault}
use Rattle.ob_object_perform.specs.declared.performing.PerformFault.TheVariants as Runs
use Rattle.ob_text_scripts.specs.declared.script.ScriptFault.{ScriptFault}

-- of the scripts of n processes, whose calls are of the exports of a module's text
pub record IsRunScriptExplanation (n : ℕ) (text : List ℕ) (scripts : Source) (fault : ScriptFault) (shown : Option (List ℕ)) : Type 0 where
  pub remark : Option Remark
  pub remarked : IsRunScriptRemark n text scripts.text fault remark
  pub shows : shown ≡ shown_in scripts remark

-- of the schedule: a remark of this kind
pub record ShowsRemark (IsRemark : Option Remark → Type 0) (schedule : Source) (shown : Option (List ℕ)) : Type 0 where
  pub remark : Option Remark
  pub remarked : IsRemark remark
  pub shows : shown ≡ shown_in schedule remark

-- of a module, of scripts and of a schedule for n processes, whose calls have a budget each: the fault of each stands in its own text
abbrev pub IsRunExplanation : (object scripts schedule : Source) (n budget : ℕ) → PerformFault → Option (List ℕ) → Type 0
IsRunExplanation object scripts schedule n budget (Runs.Compile e) shown = IsObjectExplanation object.name object.text n budget e shown
IsRunExplanation object scripts schedule n budget (Runs.Script e) shown = IsRunScriptExplanation n object.text scripts e shown
IsRunExplanation object scripts schedule n budget (Runs.Schedule e) shown = ShowsRemark (IsScheduleRemark n schedule.text e) schedule shown
IsRunExplanation object scripts schedule n budget (Runs.TooLong item) shown =
    ShowsRemark (IsAtItem schedule.text item long_item_sentence) schedule shown
IsRunExplanation object scripts schedule n budget Runs.NoMemory shown = shown ≡ None

-- the same of texts and of what is shown as the code has them
abbrev pub ExplainsRun : (object scripts schedule : Rust.Source) (n budget : ℕ) → PerformFault → Option (String Global) → Type 0
ExplainsRun object scripts schedule n budget fault shown =
    IsRunExplanation (source_of object) (source_of scripts) (source_of schedule) n budget fault (option_map string_bytes shown)
