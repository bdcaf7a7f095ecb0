-- A history that is refused with the beginning of a module.
use Rattle.std.proofs.Common.{◌≡◌, ◌≢◌, ◌<◌, ◌++◌, ℕ, List, Result, Ok, Err, Option, IfOk, inl, inr, ap, length, codes, subst, sym}
use Rattle.ob_answer_searches.specs.Orders.{ArePartsAnswer, IsNumberedRecording, IsOrderAnswer, IsOrderRecordAnswer, RefusesHistory}
use Rattle.ob_answer_files.specs.Printed.{IsRefused, refused}
use Rattle.ob_answer_files.specs.declared.answered.Answer.{Answer}
use Rattle.ob_answer_explained.proofs.AtOnce.{no_module, too_long_scan}
use Rattle.ob_answer_explained.proofs.Beginnings.{beginning, of_whole_or_long}
use Rattle.ob_fault_lines.specs.SearchFaultLines.{search_fault_line}
use Rattle.ob_fault_lines.specs.PartsFaultLines.{parts_fault_line}
use Rattle.ob_fault_lines.specs.RecordingFaultLines.{recording_fault_line}
use Rattle.ob_object_search.specs.Searched.{IsEnough, IsLegalOrder}
use Rattle.ob_object_search.specs.SearchFaults as Searches
use Rattle.ob_object_search.specs.SearchFaults.{IsSearchFault}
use Rattle.ob_object_search.specs.declared.searching.SearchFault.{SearchFault}
use Rattle.ob_object_search.specs.declared.searching.SearchFault.TheVariants as Search
use Rattle.ob_object_search.specs.Parted.{AreLegalOrders, PartOrder}
use Rattle.ob_object_search.specs.PartedFaults as Parted
use Rattle.ob_object_search.specs.PartedFaults.{IsPartsFault}
use Rattle.ob_object_search.specs.declared.fault.PartsFault.{PartsFault}
use Rattle.ob_object_search.specs.declared.fault.PartsFault.TheVariants as Parts
use Rattle.ob_object_search.specs.RecordingFaults as Recording
use Rattle.ob_object_search.specs.RecordingFaults.{IsRecordingFault, SaysNoOrder}
use Rattle.ob_object_search.specs.declared.order_recording.RecordingFault.{RecordingFault}
use Rattle.ob_object_search.specs.declared.order_recording.RecordingFault.TheVariants as Recordings
use Rattle.wf_history.specs.declared.event.CallId.{CallId}

-- a fault with a number
pub numbered_search : (e : SearchFault) → e ≢ Search.NoMemory → Searches.TellsMemoryApart e → Searches.IsNumbered e
numbered_search e known apart = elim apart [ inl is ↦ absurd (known is) | inr h ↦ h ]

pub history_refused : (part text : List ℕ) (budget : Option ℕ) (most : ℕ) (e : SearchFault) → e ≢ Search.NoMemory
    → IsSearchFault part text budget most e → Searches.TellsMemoryApart e
    → (¬ Searches.IsUndecided e → (order : List CallId) → ¬ IsLegalOrder part text budget order)
    → (IsEnough part text most → e ≢ Search.TooMany) → (65536 < length part → e ≡ Searches.too_long)
    → (whole : List ℕ) → part ≡ beginning whole → RefusesHistory whole text budget most e
history_refused part text budget most e known stands apart none decided too_long whole is = record {
  says = of_whole_or_long (λ t. IsSearchFault t text budget most e) part whole is
      (λ long longer. subst (λ (x : SearchFault). IsSearchFault whole text budget most x) (sym (too_long long)) (too_long_scan whole longer)) stands;
  none = of_whole_or_long (λ t. ¬ Searches.IsUndecided e → (order : List CallId) → ¬ IsLegalOrder t text budget order) part whole is
      (λ long longer known order legal. no_module whole longer legal.program legal.is_module) none;
  decided = of_whole_or_long (λ t. IsEnough t text most → e ≢ Search.TooMany) part whole is
      (λ long longer enough. absurd (no_module whole longer enough.program enough.is_module)) decided;
  numbered = numbered_search e known apart;
}

pub search_refused_made : {E : Type 0} (part text : List ℕ) (budget : Option ℕ) (most : ℕ) (e : SearchFault) (result : Result Answer E)
    → IfOk result (λ a. IsRefused a 1 (search_fault_line e ++ codes "\n")) → IfOk result (λ _. e ≢ Search.NoMemory)
    → IsSearchFault part text budget most e → Searches.TellsMemoryApart e
    → (¬ Searches.IsUndecided e → (order : List CallId) → ¬ IsLegalOrder part text budget order)
    → (IsEnough part text most → e ≢ Search.TooMany) → (65536 < length part → e ≡ Searches.too_long)
    → IfOk result (λ a. (whole : List ℕ) → part ≡ beginning whole → IsOrderAnswer whole text budget most a)
search_refused_made part text budget most e (Ok a) told known stands apart none decided too_long =
    λ whole is. refused e (history_refused part text budget most e known stands apart none decided too_long whole is) told
search_refused_made part text budget most e (Err x) told known stands apart none decided too_long = tt

-- ---- of a record

numbered_recording : (e : RecordingFault) → e ≢ Recording.no_memory → Recording.TellsMemoryApart e → IsNumberedRecording e
numbered_recording (Recordings.Search e) known apart = numbered_search e (λ is. known (ap Recordings.Search is)) apart
numbered_recording Recordings.Processes known apart = tt

pub record_refused_made : {E : Type 0} (part text : List ℕ) (budget : Option ℕ) (most : ℕ) (e : RecordingFault) (result : Result Answer E)
    → IfOk result (λ a. IsRefused a 1 (recording_fault_line e ++ codes "\n")) → IfOk result (λ _. e ≢ Recording.no_memory)
    → IsRecordingFault part text budget most e → Recording.TellsMemoryApart e
    → ((order : List CallId) → IsLegalOrder part text budget order → SaysNoOrder e)
    → (IsEnough part text most → e ≢ Recording.too_many) → (65536 < length part → e ≡ Recording.too_long)
    → IfOk result (λ a. (whole : List ℕ) → part ≡ beginning whole → IsOrderRecordAnswer whole text budget most a)
record_refused_made part text budget most e (Ok a) told known stands apart lawful decided too_long =
    λ whole is.
    refused e (record {
      says = of_whole_or_long (λ t. IsRecordingFault t text budget most e) part whole is
          (λ long longer. subst (λ (x : RecordingFault). IsRecordingFault whole text budget most x) (sym (too_long long)) (too_long_scan whole longer)) stands;
      none = of_whole_or_long (λ t. ¬ SaysNoOrder e → (order : List CallId) → ¬ IsLegalOrder t text budget order) part whole is
          (λ long longer known order legal. no_module whole longer legal.program legal.is_module) (λ known order legal. known (lawful order legal));
      decided = of_whole_or_long (λ t. IsEnough t text most → e ≢ Recording.too_many) part whole is
          (λ long longer enough. absurd (no_module whole longer enough.program enough.is_module)) decided;
      numbered = numbered_recording e known apart;
    }) told
record_refused_made part text budget most e (Err x) told known stands apart lawful decided too_long = tt

-- ---- of parts

numbered_parts : (e : PartsFault) → e ≢ Parts.NoMemory → Parted.TellsMemoryApart e → Parted.IsNumbered e
numbered_parts e known apart = elim apart [ inl is ↦ absurd (known is) | inr h ↦ h ]

pub parts_refused_made : {E : Type 0} (part text : List ℕ) (budget : Option ℕ) (by most : ℕ) (e : PartsFault) (result : Result Answer E)
    → IfOk result (λ a. IsRefused a 1 (parts_fault_line e ++ codes "\n")) → IfOk result (λ _. e ≢ Parts.NoMemory)
    → IsPartsFault part text budget by most e → Parted.TellsMemoryApart e
    → (¬ Parted.IsUndecided e → (parts : List PartOrder) → ¬ AreLegalOrders part text budget by parts)
    → (65536 < length part → e ≡ Parted.too_long)
    → IfOk result (λ a. (whole : List ℕ) → part ≡ beginning whole → ArePartsAnswer by whole text budget most a)
parts_refused_made part text budget by most e (Ok a) told known stands apart none too_long =
    λ whole is.
    refused e (record {
      says = of_whole_or_long (λ t. IsPartsFault t text budget by most e) part whole is
          (λ long longer. subst (λ (x : PartsFault). IsPartsFault whole text budget by most x) (sym (too_long long)) (too_long_scan whole longer)) stands;
      none = of_whole_or_long (λ t. ¬ Parted.IsUndecided e → (parts : List PartOrder) → ¬ AreLegalOrders t text budget by parts) part whole is
          (λ long longer known parts legal. no_module whole longer legal.program legal.is_module) none;
      numbered = numbered_parts e known apart;
    }) told
parts_refused_made part text budget by most e (Err x) told known stands apart none too_long = tt
