-- A fault of a history that is shown, of the beginning of a module's text.
use Rattle.std.proofs.Common.{◌≡◌, ◌≢◌, ◌<◌, ℕ, List, None, Result, Ok, Err, IfOk, length, subst, sym}
use Rattle.ob_answer_explained.proofs.Beginnings.{beginning, of_whole_or_long}
use Rattle.ob_answer_explained.specs.Explains.{wrong}
use Rattle.ob_answer_files.specs.declared.answered.Answer.{Answer}
use Rattle.ob_answer_searches.proofs.Refused.{history_refused}
use Rattle.ob_answer_searches.specs.ExplainedOrders.{IsHistoryExplained, IsHistoryFaultShown}
use Rattle.ob_command.specs.CommandLine.{Text, default_most}
use Rattle.ob_object_search.specs.Searched.{IsEnough, IsLegalOrder}
use Rattle.ob_object_search.specs.SearchFaults as Searches
use Rattle.ob_object_search.specs.SearchFaults.{IsSearchFault}
use Rattle.ob_object_search.specs.declared.searching.SearchFault.{SearchFault}
use Rattle.ob_object_search.specs.declared.searching.SearchFault.TheVariants as Search
use Rattle.wf_history.specs.declared.event.CallId.{CallId}

long_history : (module_name : Text) (part whole : List ℕ) (history_name : Text) (text : List ℕ) (e : SearchFault) (a : Answer) → e ≡ Searches.too_long
    → IsHistoryFaultShown module_name part history_name text e a → IsHistoryFaultShown module_name whole history_name text e a
long_history module_name part whole history_name text e a is told =
    let here = subst (λ (x : SearchFault). IsHistoryFaultShown module_name part history_name text x a) is told in
    subst (λ (x : SearchFault). IsHistoryFaultShown module_name whole history_name text x a) (sym is) (here.0, here.1, here.2)

pub history_wrong_made : {E : Type 0} (module_name : Text) (part : List ℕ) (history_name : Text) (text : List ℕ) (e : SearchFault) (result : Result Answer E)
    → IfOk result (IsHistoryFaultShown module_name part history_name text e) → IfOk result (λ _. e ≢ Search.NoMemory)
    → IsSearchFault part text None default_most e → Searches.TellsMemoryApart e
    → (¬ Searches.IsUndecided e → (order : List CallId) → ¬ IsLegalOrder part text None order)
    → (IsEnough part text default_most → e ≢ Search.TooMany) → (65536 < length part → e ≡ Searches.too_long)
    → IfOk result (λ a. (whole : List ℕ) → part ≡ beginning whole → IsHistoryExplained module_name whole history_name text a)
history_wrong_made module_name part history_name text e (Ok a) told known stands apart none decided too_long =
    λ whole is.
    let shown = of_whole_or_long (λ t. IsHistoryFaultShown module_name t history_name text e a) part whole is
    (λ long longer. long_history module_name part whole history_name text e a (too_long long) told) told in
    wrong e (history_refused part text None default_most e known stands apart none decided too_long whole is) shown
history_wrong_made module_name part history_name text e (Err x) told known stands apart none decided too_long = tt
