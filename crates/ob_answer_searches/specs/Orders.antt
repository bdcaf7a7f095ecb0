-- What `order` answers to the bytes of a module and of a history.
use Rattle.std.specs.Prelude.{◌≡◌, ◌≢◌, ℕ, List, Option}
use Rattle.std.specs.List.{flat_map}
use Rattle.ob_object_search.specs.Searched.{IsEnough, IsLegalOrder}
use Rattle.ob_object_search.specs.SearchFaults as Searches
use Rattle.ob_object_search.specs.SearchFaults.{IsSearchFault}
use Rattle.ob_object_search.specs.declared.searching.SearchFault.{SearchFault}
use Rattle.ob_object_search.specs.declared.searching.SearchFault.TheVariants as Searching
use Rattle.ob_object_search.specs.Parted.{AreLegalOrders, PartOrder}
use Rattle.ob_object_search.specs.PartedFaults as Parts
use Rattle.ob_object_search.specs.PartedFaults.{IsPartsFault}
use Rattle.ob_object_search.specs.declared.fault.PartsFault.{PartsFault}
use Rattle.ob_object_search.specs.RecordingFaults.{IsRecordingFault, SaysNoOrder, too_many}
use Rattle.ob_object_search.specs.SearchRecords.{IsRecordFound}
use Rattle.ob_object_search.specs.declared.order_recording.RecordingFault.{RecordingFault}
use Rattle.ob_object_search.specs.declared.order_recording.RecordingFault.TheVariants as Recordings
use Rattle.wf_history.specs.declared.event.CallId.{CallId}
use Rattle.ob_answer_files.specs.declared.answered.Answer.{Answer}
use Rattle.ob_fault_lines.specs.SearchFaultLines.{search_fault_line}
use Rattle.ob_fault_lines.specs.PartsFaultLines.{parts_fault_line}
use Rattle.ob_fault_lines.specs.RecordingFaultLines.{recording_fault_line}
use Rattle.ob_command.specs.CommandLine.{Text}
use Rattle.ob_text_record.specs.RecordText.{order_text}
use Rattle.ob_answer_files.specs.Printed.{IsTextAnswer}
use Rattle.ob_command.specs.declared.command.OrderProduct.{OrderProduct}
use Rattle.ob_command.specs.declared.command.OrderProduct.TheVariants as Products

-- the order of a history; a search that was given up rules no order out, and is given up only where more configurations were needed
pub record RefusesHistory (module_bytes history_bytes : List ℕ) (budget : Option ℕ) (most : ℕ) (e : SearchFault) : Type 0 where
  pub says : IsSearchFault module_bytes history_bytes budget most e
  pub none : ¬ Searches.IsUndecided e → (order : List CallId) → ¬ IsLegalOrder module_bytes history_bytes budget order
  pub decided : IsEnough module_bytes history_bytes most → e ≢ Searching.TooMany
  pub numbered : Searches.IsNumbered e

-- ---- of the bytes of a module and of a history, with a budget where one is given, by a look at so many configurations at most

-- the line of a legal order
abbrev pub SaysOrder : (module_bytes history_bytes : List ℕ) (budget : Option ℕ) → Text → Type 0
SaysOrder module_bytes history_bytes budget text =
    (order : List CallId) × IsLegalOrder module_bytes history_bytes budget order × (text ≡ order_text order)

abbrev pub IsOrderAnswer : (module_bytes history_bytes : List ℕ) (budget : Option ℕ) (most : ℕ) → Answer → Type 0
IsOrderAnswer module_bytes history_bytes budget most =
    IsTextAnswer (SaysOrder module_bytes history_bytes budget) (RefusesHistory module_bytes history_bytes budget most) search_fault_line

-- the record of a history with a legal order: the same, and it has no more processes than a record can have
abbrev pub IsNumberedRecording : RecordingFault → Type 0
IsNumberedRecording (Recordings.Search e) = Searches.IsNumbered e
IsNumberedRecording Recordings.Processes = Unit {0}

pub record RefusesRecording (module_bytes history_bytes : List ℕ) (budget : Option ℕ) (most : ℕ) (e : RecordingFault) : Type 0 where
  pub says : IsRecordingFault module_bytes history_bytes budget most e
  pub none : ¬ SaysNoOrder e → (order : List CallId) → ¬ IsLegalOrder module_bytes history_bytes budget order
  pub decided : IsEnough module_bytes history_bytes most → e ≢ too_many
  pub numbered : IsNumberedRecording e

abbrev pub IsOrderRecordAnswer : (module_bytes history_bytes : List ℕ) (budget : Option ℕ) (most : ℕ) → Answer → Type 0
IsOrderRecordAnswer module_bytes history_bytes budget most =
    IsTextAnswer (IsRecordFound module_bytes history_bytes budget) (RefusesRecording module_bytes history_bytes budget most) recording_fault_line

-- the orders of the parts of a history, as its order
pub record RefusesParts (module_bytes history_bytes : List ℕ) (budget : Option ℕ) (by most : ℕ) (e : PartsFault) : Type 0 where
  pub says : IsPartsFault module_bytes history_bytes budget by most e
  pub none : ¬ Parts.IsUndecided e → (parts : List PartOrder) → ¬ AreLegalOrders module_bytes history_bytes budget by parts
  pub numbered : Parts.IsNumbered e

-- a line of a legal order for each value of the argument, in the order in which the values first come
abbrev pub parts_text : List PartOrder → Text
parts_text = flat_map (λ part. order_text part.order)

abbrev pub SaysParts : (module_bytes history_bytes : List ℕ) (budget : Option ℕ) (by : ℕ) → Text → Type 0
SaysParts module_bytes history_bytes budget by text =
    (parts : List PartOrder) × AreLegalOrders module_bytes history_bytes budget by parts × (text ≡ parts_text parts)

abbrev pub ArePartsAnswer : (by : ℕ) (module_bytes history_bytes : List ℕ) (budget : Option ℕ) (most : ℕ) → Answer → Type 0
ArePartsAnswer by module_bytes history_bytes budget most =
    IsTextAnswer (SaysParts module_bytes history_bytes budget by) (RefusesParts module_bytes history_bytes budget by most) parts_fault_line

-- what is printed of it
abbrev pub IsProductAnswer : OrderProduct → (module_bytes history_bytes : List ℕ) (budget : Option ℕ) (most : ℕ) → Answer → Type 0
IsProductAnswer Products.Line = IsOrderAnswer
IsProductAnswer Products.WholeRecord = IsOrderRecordAnswer
IsProductAnswer (Products.Apart by) = ArePartsAnswer by
