-- What `explain` answers to a module and a history.
use Rattle.std.specs.Prelude.{ℕ, List, None, Option}
use Rattle.ob_answer_explained.specs.CommandTexts.{source}
use Rattle.ob_answer_explained.specs.Explains.{IsExplained, IsShownOr}
use Rattle.ob_answer_files.specs.declared.answered.Answer.{Answer}
use Rattle.ob_answer_searches.specs.Orders.{RefusesHistory}
use Rattle.ob_command.specs.CommandLine.{Text, default_most}
use Rattle.ob_explained_records.specs.ExplainedHistories.{IsHistoryExplanation}
use Rattle.ob_fault_lines.specs.SearchFaultLines.{search_fault_line}
use Rattle.ob_object_search.specs.Searched.{IsLegalOrder}
use Rattle.ob_object_search.specs.declared.searching.SearchFault.{SearchFault}
use Rattle.wf_history.specs.declared.event.CallId.{CallId}

-- a history has a legal order, with the budget that it tells
abbrev pub HasLegalOrder : (module_bytes history_bytes : List ℕ) → Type 0
HasLegalOrder module_bytes history_bytes = (order : List CallId) × IsLegalOrder module_bytes history_bytes None order

-- a fault of a history: the place in its file or in the module's, and else the line by which `order` tells it
abbrev pub IsHistoryFaultShown : (module_name : Text) (module_bytes : List ℕ) (history_name : Text) (history_bytes : List ℕ) → SearchFault → Answer → Type 0
IsHistoryFaultShown module_name module_bytes history_name history_bytes e answer =
    (told : Option Text) × IsHistoryExplanation (source module_name module_bytes) (source history_name history_bytes) e told
    × IsShownOr (search_fault_line e) told answer

-- to the names and the bytes of a module and of a history, which are right where `order` prints an order
abbrev pub IsHistoryExplained : (module_name : Text) (module_bytes : List ℕ) (history_name : Text) (history_bytes : List ℕ) → Answer → Type 0
IsHistoryExplained module_name module_bytes history_name history_bytes =
    IsExplained (HasLegalOrder module_bytes history_bytes) (RefusesHistory module_bytes history_bytes None default_most)
    (IsHistoryFaultShown module_name module_bytes history_name history_bytes)
