-- What each fault of the scripts or the schedule of a run says to people.
use Rattle.std.specs.Prelude.{◌≡◌, ℕ, ◌-◌, ◌==◌, ◌++◌, List, Option, None, codes, decimal, if◌then◌else◌}
use Rattle.ob_explain_sentences.specs.Remarks.{Remark, at}
use Rattle.ob_explained.specs.ScriptPlaces.{first_place, in_line}
use Rattle.ob_explained.specs.CallRemarks.{IsScriptRemark}
use Rattle.ob_explain_arguments.specs.Items.{item_sentence}
use Rattle.ob_explained.specs.ItemPlaces.{IsItemPlace, item_at}
use Rattle.ob_text_words.specs.declared.schedule_texts.ScheduleFault.{ScheduleFault}
use Rattle.ob_text_words.specs.declared.schedule_texts.ScheduleFault.TheVariants as Schedule
use Rattle.ob_text_scripts.specs.declared.script.ScriptFault.{ScriptFault}
use Rattle.ob_text_scripts.specs.declared.script.ScriptFault.TheVariants as Script

-- which processes there are
abbrev pub processes_sentence : ℕ → List ℕ
processes_sentence n =
    if n == 1 then codes "with -n 1 there is process 0 alone"
    else (codes "with -n " ++ decimal n ++ codes " the processes are 0 to " ++ decimal (n - 1))

-- at the process that there isn't; each other fault as of a script by itself, for the exports of the module's text
abbrev pub IsRunScriptRemark : (n : ℕ) → (text scripts : List ℕ) → ScriptFault → Option Remark → Type 0
IsRunScriptRemark n text scripts (Script.Process line) remark = remark ≡ at (in_line first_place scripts line) (processes_sentence n)
IsRunScriptRemark n text scripts fault remark = IsScriptRemark text scripts fault remark

-- at the place of the item of a number
pub record IsAtItem (schedule : List ℕ) (item : ℕ) (sentence : List ℕ) (remark : Option Remark) : Type 0 where
  pub place : ℕ
  pub stands : IsItemPlace schedule item place
  pub told : remark ≡ at place sentence

abbrev pub IsScheduleRemark : (n : ℕ) → List ℕ → ScheduleFault → Option Remark → Type 0
IsScheduleRemark n schedule (Schedule.Form item) remark = IsAtItem schedule item (item_sentence (item_at schedule item)) remark
IsScheduleRemark n schedule (Schedule.Process item) remark = IsAtItem schedule item (processes_sentence n) remark
IsScheduleRemark n schedule Schedule.NoMemory remark = remark ≡ None

abbrev pub long_item_sentence : List ℕ
long_item_sentence = codes "an item stands for at most 1000000 steps; write several items, or give the calls fewer turns"
