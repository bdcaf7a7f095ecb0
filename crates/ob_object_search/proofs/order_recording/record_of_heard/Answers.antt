use Rattle.std.proofs.Common.{◌∙◌, ◌<◌, ℕ, List, ap, refl, subst, sym}
use Rattle.std.proofs.lemmas.Result.{err_from_is_err_and}
use Rattle.ob_checked.specs.CheckedModule.{program_in}
use Rattle.ob_interface.specs.Call.{ObjectCall, Reply}
use Rattle.ob_interface.specs.Processes.{most_processes}
use Rattle.ob_object_run.specs.LegalOrder.{CallEnds}
use Rattle.ob_text_record.specs.Record.{record_of}
use Rattle.ob_object_search.proofs.Recorded.{enough_found, fault_found, lawful_found, legal_found, many_heard, needed_found, recorded}
use Rattle.ob_object_search.proofs.Recordings.{search_decided}
use Rattle.ob_store.specs.View.{state_of}
use Rattle.ob_text_reading.specs.Names.{named_all}
use Rattle.wf_lookup.specs.Beginnings.{process_count}
use Rattle.wf_history.specs.History.{Event}
use Rattle.wf_history.specs.Legal.{IsLegal}
use Rattle.wf_history.specs.declared.event.CallId.{CallId}
use Rattle.ob_object_search.proofs.order_recording.record_of_heard.Goals as goal

pub returns-in_default-clause-fault : goal.returns-in_default-clause-fault
returns-in_default-clause-fault c =
    many_heard (program_in c.args.checked.now) c.args._text.now c.args.search.now.budget c.args.heard c.requires
    (subst (λ (es : List (Event ObjectCall Reply)). most_processes < process_count es)
    (c.events.ensures.value ∙ c.in_ok-history.ensures ∙ ap (λ (ns : List ℕ). named_all ns c.args.heard.read.history) c.as_slice-names.ensures.value) c.in_default.ensures)

pub order_found-requires-clause-apart : goal.order_found-requires-clause-apart
order_found-requires-clause-apart c = rw c.as_slice-names.ensures.value c.requires.apart

pub returns-in_err-order-clause-fault : goal.returns-in_err-order-clause-fault
returns-in_err-order-clause-fault c =
    let p = err_from_is_err_and c.from_residual-in_err-order.result c.from_residual-in_err-order.ensures.1 in
    rw (p.1, p.2)
    (fault_found (program_in c.args.checked.now) c.args._text.now c.args.search.now.budget c.args.heard c.requires _ _ _ _
    (ap program_in c.in_ok-object.ensures.checked) c.in_ok-object.ensures.budget (ap state_of c.in_ok-object.ensures.opening) c.as_slice-names.ensures.value
    c.args.search.now.most c.in_err-order.field-0.0 c.in_err-order.ensures.fault)

pub returns-in_err-order-clause-lawful : goal.returns-in_err-order-clause-lawful
returns-in_err-order-clause-lawful c =
    let p = err_from_is_err_and c.from_residual-in_err-order.result c.from_residual-in_err-order.ensures.1 in
    rw (p.1, p.2)
    (lawful_found (program_in c.args.checked.now) c.args._text.now c.args.search.now.budget c.args.heard c.requires _ _ _ _
    (ap program_in c.in_ok-object.ensures.checked) c.in_ok-object.ensures.budget (ap state_of c.in_ok-object.ensures.opening) c.as_slice-names.ensures.value
    c.args.search.now.most c.in_err-order.field-0.0 c.in_err-order.ensures.fault)

pub returns-in_err-order-clause-decided : goal.returns-in_err-order-clause-decided
returns-in_err-order-clause-decided c =
    let p = err_from_is_err_and c.from_residual-in_err-order.result c.from_residual-in_err-order.ensures.1 in
    rw (p.1, p.2)
    (λ enough. search_decided c.in_err-order.field-0.0 (c.in_err-order.ensures.decided
    (enough_found (program_in c.args.checked.now) c.args._text.now c.args.search.now.budget c.args.heard c.requires _ _ _ _
    (ap program_in c.in_ok-object.ensures.checked) c.in_ok-object.ensures.budget (ap state_of c.in_ok-object.ensures.opening) c.as_slice-names.ensures.value
    c.args.search.now.most enough)))

pub last_state-requires : goal.last_state-requires
last_state-requires c =
    let found = c.in_ok-order.ensures.order in (
      found.0,
      subst (λ (ids : List CallId). IsLegal (CallEnds (program_in c.in_ok-object.object.checked.now) c.in_ok-object.object.budget) (state_of c.in_ok-object.object.opening.now) c.in_ok-history.history ids found.0) (sym c.deref.ensures.value)
          (subst (λ (es : List (Event ObjectCall Reply)). IsLegal (CallEnds (program_in c.in_ok-object.object.checked.now) c.in_ok-object.object.budget) (state_of c.in_ok-object.object.opening.now) es c.in_ok-order.order.items found.0) (sym c.in_ok-history.ensures) found.1),
    )

pub returns-clause-made : goal.returns-clause-made
returns-clause-made c =
    let history = c.in_ok-history.ensures ∙ ap (λ (ns : List ℕ). named_all ns c.args.heard.read.history) c.as_slice-names.ensures.value in
    recorded (program_in c.args.checked.now) c.args._text.now c.args.search.now.budget c.args.heard c.requires
    (record_of (record {
      processes = c.in-Some.processes;
      budget = c.args.heard.budget;
      carried = c.args.heard.read.carried;
      history = c.in_ok-history.history;
      order = c.in_ok-order.order;
      schedule = c.new-schedule.result;
      state = c.in_ok-state.state;
    }))
    (c.in-Some.ensures.0 ∙ ap process_count (c.events.ensures.value ∙ history)) c.in-Some.ensures.1 refl refl history c.new-schedule.ensures.items
    (legal_found (program_in c.args.checked.now) c.args._text.now c.args.search.now.budget c.args.heard c.requires _ _ _ _
    (ap program_in c.in_ok-object.ensures.checked) c.in_ok-object.ensures.budget (ap state_of c.in_ok-object.ensures.opening) c.as_slice-names.ensures.value
    c.in_ok-history.history c.in_ok-order.order.items _ _ c.deref.ensures.value c.in_ok-state.ensures)
    (needed_found (program_in c.args.checked.now) c.args._text.now c.args.search.now.budget c.args.heard c.requires _ _ _ _
    (ap program_in c.in_ok-object.ensures.checked) c.in_ok-object.ensures.budget (ap state_of c.in_ok-object.ensures.opening) c.as_slice-names.ensures.value
    c.in_ok-order.order.items c.in_ok-order.ensures.needed)
