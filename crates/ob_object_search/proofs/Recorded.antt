-- What is recorded of a history that is heard, by positions.
use Rattle.std.proofs.Common.{◌≡◌, ◌∙◌, ◌<◌, ◌≤◌, ℕ, List, [], Option, refl, subst, sym}
use Rattle.ob_interface.specs.Call.{ObjectCall, Reply}
use Rattle.ob_interface.specs.Processes.{most_processes}
use Rattle.ob_object_run.specs.LegalOrder.{CallEnds}
use Rattle.ob_text_record.specs.Record.{Record}
use Rattle.ob_object_search.proofs.Histories.{enough_here, found_fault, found_lawful, found_needed}
use Rattle.ob_object_search.specs.Found.{IsEnoughHere, IsFaultHere, IsNeededHere}
use Rattle.ob_object_search.specs.Searched.{HasEnough, HasNoneNeedless, HasOrder}
use Rattle.ob_object_search.specs.SearchFaults.{HasSearchFault, IsUndecided}
use Rattle.ob_object_search.specs.declared.searching.SearchFault.{SearchFault}
use Rattle.ob_object_search.specs.Heard.{IsHeard}
use Rattle.ob_object_search.specs.RecordingFaults.{HasManyProcesses}
use Rattle.ob_object_search.specs.SearchRecords.{IsHistoryRecord, IsSame}
use Rattle.wf_lookup.specs.Beginnings.{process_count}
use Rattle.ob_object_search.specs.declared.order_recording.Heard as Rust
use Rattle.ob_object_calls.specs.Beginnings.{BeginsPlaced, TrapsPlaced}
use Rattle.ob_meaning.specs.ByPositionStore.{Activation}
use Rattle.ob_store.specs.View.{state_of}
use Rattle.ob_text_reading.specs.Names.{named_all}
use Rattle.ob_text_reading.specs.HistoryContents.{told_of}
use Rattle.ob_typing.specs.Program.{Program}
use Rattle.wf_history.specs.History.{Event}
use Rattle.wf_history.specs.Legal.{IsLegal}
use Rattle.wf_history.specs.declared.event.CallId.{CallId}
use Rattle.wf_needed.specs.Needed.{NoneIsNeedless}

module _ (program : Program) (text : List ℕ) (asked : Option ℕ) (h : Rust.Heard) (heard : IsHeard program text asked h) where
  -- a process is over 15
  pub many_heard : most_processes < process_count (told_of h.read).events → HasManyProcesses BeginsPlaced program text
  many_heard many =
      record { start = record { tells = told_of h.read; is_history = heard.history; opening = state_of h.opening; begins = heard.begins }; many = many }

  -- the record that has all this
  pub recorded : (r : Record) → r.processes ≡ process_count (told_of h.read).events → r.processes ≤ most_processes → r.budget ≡ h.budget →
      r.carried ≡ (told_of h.read).carried → r.history ≡ (told_of h.read).events → r.schedule ≡ [] →
      IsLegal (CallEnds program h.budget) (state_of h.opening) r.history r.order r.state → HasNoneNeedless BeginsPlaced CallEnds program text asked r.order →
      IsHistoryRecord BeginsPlaced CallEnds IsSame program text asked r
  recorded r processes few budget carried history schedule legal needed =
      record {
        start = record { tells = told_of h.read; is_history = heard.history; opening = state_of h.opening; begins = heard.begins };
        processes = processes;
        few = few;
        budget = budget ∙ heard.budget;
        carried = carried;
        history = history;
        last = r.state;
        legal = subst (λ (b : ℕ). IsLegal (CallEnds program b) (state_of h.opening) r.history r.order r.state) (sym budget) legal;
        needed = needed;
        schedule = schedule;
        leads = refl;
      }

  pub fault_heard : (most : ℕ) (e : SearchFault) → IsFaultHere program h.budget (state_of h.opening) h.read.history h.read.processes.items most e →
      HasSearchFault BeginsPlaced TrapsPlaced CallEnds program text asked most e
  fault_heard most e f =
      found_fault program text asked most (told_of h.read) heard.history heard.alone (state_of h.opening) heard.begins h.budget heard.budget h.read.processes.items h.read.history refl heard.apart heard.below e f

  lawful_heard : (most : ℕ) (e : SearchFault) → IsFaultHere program h.budget (state_of h.opening) h.read.history h.read.processes.items most e →
      (order : List CallId) → HasOrder BeginsPlaced CallEnds program text asked order → IsUndecided e
  lawful_heard most e f =
      found_lawful program text asked most (told_of h.read) heard.history heard.alone (state_of h.opening) heard.begins h.budget heard.budget h.read.processes.items h.read.history refl e f

  needed_heard : (order : List CallId) → IsNeededHere program h.budget (state_of h.opening) h.read.history h.read.processes.items order → HasNoneNeedless BeginsPlaced CallEnds program text asked order
  needed_heard =
      found_needed program text asked 0 (told_of h.read) heard.history heard.alone (state_of h.opening) heard.begins h.budget heard.budget h.read.processes.items h.read.history refl

  pub enough_heard : (most : ℕ) → HasEnough program text most → IsEnoughHere h.read.history h.read.processes.items most
  enough_heard most enough =
      enough_here program text asked most (told_of h.read) heard.history heard.alone h.read.processes.items h.read.history refl heard.apart heard.begun enough

  -- what is found of the object that begins so
  module _ (p : Program) (b : ℕ) (o : Activation) (ns : List ℕ) (same_program : p ≡ program) (same_budget : b ≡ h.budget) (same_opening : o ≡ state_of h.opening) (same_names : ns ≡ h.read.processes.items) where
    pub fault_there : (history : List (Event ObjectCall Reply)) (most : ℕ) (e : SearchFault) → IsFaultHere p b o history ns most e → IsFaultHere program h.budget (state_of h.opening) history h.read.processes.items most e
    fault_there history most e f =
        subst (λ (x : Program). IsFaultHere x h.budget (state_of h.opening) history h.read.processes.items most e) same_program
        (subst (λ (x : ℕ). IsFaultHere p x (state_of h.opening) history h.read.processes.items most e) same_budget
        (subst (λ (x : Activation). IsFaultHere p b x history h.read.processes.items most e) same_opening
        (subst (λ (x : List ℕ). IsFaultHere p b o history x most e) same_names f)))

    pub fault_found : (most : ℕ) (e : SearchFault) → IsFaultHere p b o h.read.history ns most e → HasSearchFault BeginsPlaced TrapsPlaced CallEnds program text asked most e
    fault_found most e f = fault_heard most e (fault_there h.read.history most e f)

    pub lawful_found : (most : ℕ) (e : SearchFault) → IsFaultHere p b o h.read.history ns most e → (order : List CallId) → HasOrder BeginsPlaced CallEnds program text asked order → IsUndecided e
    lawful_found most e f = lawful_heard most e (fault_there h.read.history most e f)

    pub needed_there : (history : List (Event ObjectCall Reply)) (order : List CallId) → NoneIsNeedless (CallEnds p b) o history order → NoneIsNeedless (CallEnds program h.budget) (state_of h.opening) history order
    needed_there history order needed =
        subst (λ (x : Program). NoneIsNeedless (CallEnds x h.budget) (state_of h.opening) history order) same_program
        (subst (λ (x : ℕ). NoneIsNeedless (CallEnds p x) (state_of h.opening) history order) same_budget
        (subst (λ (x : Activation). NoneIsNeedless (CallEnds p b) x history order) same_opening needed))

    pub needed_found : (order : List CallId) → IsNeededHere p b o h.read.history ns order → HasNoneNeedless BeginsPlaced CallEnds program text asked order
    needed_found order needed =
        needed_heard order
        (subst (λ (x : List ℕ). IsNeededHere program h.budget (state_of h.opening) h.read.history x order) same_names
        (needed_there (named_all ns h.read.history) order needed))

    pub enough_found : (most : ℕ) → HasEnough program text most → IsEnoughHere h.read.history ns most
    enough_found most enough = subst (λ (x : List ℕ). IsEnoughHere h.read.history x most) (sym same_names) (enough_heard most enough)

    pub legal_found : (history : List (Event ObjectCall Reply)) (order ids : List CallId) (last : Activation) → ids ≡ order → IsLegal (CallEnds p b) o history ids last →
        IsLegal (CallEnds program h.budget) (state_of h.opening) history order last
    legal_found history order ids last same_order l =
        subst (λ (x : Program). IsLegal (CallEnds x h.budget) (state_of h.opening) history order last) same_program
        (subst (λ (x : ℕ). IsLegal (CallEnds p x) (state_of h.opening) history order last) same_budget
        (subst (λ (x : Activation). IsLegal (CallEnds p b) x history order last) same_opening
        (subst (λ (x : List CallId). IsLegal (CallEnds p b) o history x last) same_order l)))
