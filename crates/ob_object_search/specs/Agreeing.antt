-- Law: the order that is found, put into a record, is verified.
use Rattle.std.specs.Prelude.{◌≡◌, ℕ, List, Option}
use Rattle.ob_object_search.specs.Searched.{IsLegalOrder, budget_of}
use Rattle.ob_object_calls.specs.Verified.{IsVerified}
use Rattle.ob_text_reading.specs.HistoryLines.{HistoryTold, IsHistoryText}
use Rattle.ob_text_reading.specs.RecordLines.{IsRecord, Told}
use Rattle.ob_typing.specs.ModuleText.{IsModule}
use Rattle.ob_typing.specs.Program.{Program}
use Rattle.wf_history.specs.declared.event.CallId.{CallId}

-- what is told by a record is what a history tells, with this order, where each call has the budget that is asked for or told
pub record TellsAs (told : Told) (heard : HistoryTold) (asked : Option ℕ) (found : List CallId) : Type 0 where
  pub budget : told.budget ≡ budget_of asked heard.budget
  pub carried : told.carried ≡ heard.carried
  pub events : told.events ≡ heard.events
  pub order : told.order ≡ found

-- one text is a record of a program's object that tells what the other one tells as a history, with this order
pub record RecordsOrder (program : Program) (history_text record_text : List ℕ) (asked : Option ℕ) (order : List CallId) : Type 0 where
  pub told : Told
  pub is_record : IsRecord program record_text told
  pub same : (heard : HistoryTold) → IsHistoryText program history_text heard → TellsAs told heard asked order

-- such a record is verified, where the order is a legal order of the history
abbrev pub FoundOrdersAreVerified : Type 0
FoundOrdersAreVerified =
    (module_text history_text record_text : List ℕ) (asked : Option ℕ) (order : List CallId) → IsLegalOrder module_text history_text asked order →
    ((program : Program) → IsModule module_text program → RecordsOrder program history_text record_text asked order) → IsVerified module_text record_text
