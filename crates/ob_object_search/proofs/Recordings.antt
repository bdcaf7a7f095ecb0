-- What is recorded of a history by positions, as what is answered of both texts.
use Rattle.std.proofs.Common.{◌≡◌, ◌≢◌, ℕ, List, Option, subst, sym}
use Rattle.ob_meaning.specs.Resolved.{IsResolved}
use Rattle.ob_meaning.specs.Same.{SameState}
use Rattle.ob_code_correct.proofs.Named.{names_simulate}
use Rattle.ob_code_correct.specs.Carried.{BegunFit}
use Rattle.ob_code_correct.specs.Compiled.{Fits}
use Rattle.ob_code_correct.specs.Named.{CallMeans}
use Rattle.ob_interface.specs.Call.{ObjectCall, Reply}
use Rattle.ob_meaning.specs.ByNameObject.{State}
use Rattle.ob_object_run.specs.LegalOrder.{CallEnds}
use Rattle.ob_text_record.specs.Record.{Record}
use Rattle.ob_object_search.proofs.Crossing.{needed_named}
use Rattle.ob_object_search.proofs.Fitting.{calls_fit, history_opened}
use Rattle.ob_object_search.proofs.Texts as Texts
use Rattle.ob_object_search.specs.SearchFaults.{of_open, of_reading}
use Rattle.ob_object_search.specs.declared.searching.SearchFault.{SearchFault}
use Rattle.ob_object_search.specs.declared.searching.SearchFault.TheVariants as SearchFaults
use Rattle.ob_object_search.specs.RecordingFaults.{HasManyProcesses, HasRecordingFault, IsRecordingFault, too_many}
use Rattle.ob_object_search.specs.SearchRecords.{IsHistoryRecord, IsRecordFound, IsSame}
use Rattle.ob_object_search.specs.declared.order_recording.RecordingFault.{RecordingFault}
use Rattle.ob_object_search.specs.declared.order_recording.RecordingFault.TheVariants as Faults
use Rattle.ob_mean.specs.declared.openings.OpenFault.{OpenFault}
use Rattle.ob_mean.specs.declared.openings.OpenFault.TheVariants as Open
use Rattle.ob_text_reading.specs.declared.record_reading.RecordFault.{RecordFault}
use Rattle.ob_text_reading.specs.declared.record_reading.RecordFault.TheVariants as Reading
use Rattle.ob_object_calls.proofs.Beginnings.{beginning_named}
use Rattle.ob_object_calls.proofs.Openings.{module_resolved}
use Rattle.ob_object_calls.proofs.Simulated.{legal_there}
use Rattle.ob_object_calls.specs.Beginnings.{BeginsNamed, BeginsPlaced, TrapsPlaced}
use Rattle.ob_meaning.specs.ByPositionStore.{Activation}
use Rattle.ob_text_record.specs.RecordText.{record_text}
use Rattle.ob_typing.specs.ModuleText.{IsModule}
use Rattle.ob_typing.specs.Program.{Program}
use Rattle.wf_history.specs.History.{Event}
use Rattle.wf_history.specs.declared.event.CallId.{CallId}

-- no other fault is that of too many configurations
pub search_decided : (e : SearchFault) → e ≢ SearchFaults.TooMany → Faults.Search e ≢ too_many
search_decided e decided same = decided (cc)

-- nor is a fault of the history's form, or of its opening, the end of a call
pub form_unsearched : (e : RecordFault) (id : CallId) → of_reading e ≢ SearchFaults.Illegal id
form_unsearched (Reading.Form line) id same = cc
form_unsearched Reading.NoMemory id same = cc

pub open_unsearched : (e : OpenFault) (id : CallId) → of_open e ≢ SearchFaults.Illegal id
open_unsearched (Open.Trap trap) id same = cc
open_unsearched Open.NoMemory id same = cc

module _ (program : Program) (good : IsResolved program) (text : List ℕ) where
  abbrev IsNamed : Activation → State → Type 0
  IsNamed activation state = SameState program state activation

  pub many_named : HasManyProcesses BeginsPlaced program text → HasManyProcesses BeginsNamed program text
  many_named h =
      let t = h.start.tells in
      let o = beginning_named program good t.carried (history_opened program text t h.start.is_history) h.start.opening h.start.begins in
      record { start = record { tells = t; is_history = h.start.is_history; opening = o.0; begins = o.1 }; many = h.many }

  pub record_named : (asked : Option ℕ) (r : Record) → IsHistoryRecord BeginsPlaced CallEnds IsSame program text asked r → IsHistoryRecord BeginsNamed CallMeans SameState program text asked r
  record_named asked r h =
      let t = h.start.tells in
      let o = beginning_named program good t.carried (history_opened program text t h.start.is_history) h.start.opening h.start.begins in
      let fit = subst (λ (es : List (Event ObjectCall Reply)). BegunFit (Fits program) es) (sym h.history) (calls_fit program text t h.start.is_history) in
      let legal = legal_there (Fits program) IsNamed (CallEnds program r.budget) (CallMeans program r.budget) (names_simulate program r.budget good) r.history r.order fit h.start.opening o.0 o.2 h.last h.legal in
      record {
        start = record { tells = t; is_history = h.start.is_history; opening = o.0; begins = o.1 };
        processes = h.processes;
        few = h.few;
        budget = h.budget;
        carried = h.carried;
        history = h.history;
        last = legal.end;
        legal = legal.legal;
        needed = needed_named program good text asked r.order h.needed;
        schedule = h.schedule;
        leads = subst (λ (a : Activation). SameState program legal.end a) h.leads legal.is;
      }

module _ (module_text history_text : List ℕ) (asked : Option ℕ) (most : ℕ) (program : Program) (is_module : IsModule module_text program)
    (alone : (other : Program) → IsModule module_text other → other ≡ program) where
  pub record_by : (r : Record) → IsHistoryRecord BeginsPlaced CallEnds IsSame program history_text asked r → (output : List ℕ) → output ≡ record_text program r →
      IsRecordFound module_text history_text asked output
  record_by r h output written =
      record { program = program; is_module = is_module; r = r; is_record = record_named program (module_resolved module_text program is_module) history_text asked r h; written = written }

  pub fault_by : (e : RecordingFault) → HasRecordingFault BeginsPlaced TrapsPlaced CallEnds program history_text asked most e → IsRecordingFault module_text history_text asked most e
  fault_by (Faults.Search e) h = Texts.told_of module_text history_text asked most program is_module alone e h
  fault_by Faults.Processes h =
      record { program = program; is_module = is_module; has_many = many_named program (module_resolved module_text program is_module) history_text h }
