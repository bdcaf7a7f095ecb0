use Rattle.std.proofs.Common.{◌<◌, ◌∙◌, ℕ, All, Option, ap, map, subst, sym}
use Rattle.std.proofs.lemmas.Result.{err_from_is_err_and}
use Rattle.std.specs.Prelude.{Contains}
use Rattle.ob_layout.specs.Layout.{parts_of}
use Rattle.ob_object_compile.specs.View.{object_in}
use Rattle.ob_object_perform.proofs.Mapped.{callers_below, fit_engine}
use Rattle.ob_object_perform.proofs.PerformObjects.{fits_program, object_for}
use Rattle.ob_object_perform.proofs.Runs.{fault_in, meant_in, none_in, shows_in}
use Rattle.ob_object_perform.specs.Performance.{IsMeantIn, Shows}
use Rattle.ob_text_record.specs.Record.{Record, record_of}
use Rattle.ob_meaning.specs.ByPositionStore.{Activation}
use Rattle.ob_text_words.specs.Schedule.{process_of}
use Rattle.ob_store.specs.View.{state_of}
use Rattle.ob_text_words.specs.ScriptCalls.{script_call_of}
use Rattle.wf_history.specs.History.{Begin}
use Rattle.ob_object_perform.proofs.perform_running.run_on.Goals as goal

pub record_run-requires-clause-object : goal.record_run-requires-clause-object
record_run-requires-clause-object c =
    let p = c.into_parts-processes in
    object_for (object_in c.args.object) c.requires.sound c.states_are_objects.ensures p.result.3.parts (state_of p.result.4) p.ensures.engine p.ensures.opening (parts_of p.result.2) p.ensures.layout

pub record_run-requires-clause-callers : goal.record_run-requires-clause-callers
record_run-requires-clause-callers c =
    callers_below (object_in c.args.object) c.args.calls c.into_calls.result.items c.into_calls.ensures
    c.into_parts-processes.result.0 c.into_parts-processes.ensures.processes c.requires.callers

pub record_run-requires-clause-fits : goal.record_run-requires-clause-fits
record_run-requires-clause-fits c =
    let p = c.into_parts-processes in
    fit_engine (object_in c.args.object) c.args.calls c.into_calls.result.items c.into_calls.ensures c.requires.sound p.result.3.parts p.ensures.engine c.requires.fit

pub record_run-requires-clause-items : goal.record_run-requires-clause-items
record_run-requires-clause-items c =
    rw c.as_slice.ensures.value
    (subst (λ (k : ℕ). All (λ item. process_of item < k) c.args.items.items) (sym c.into_parts-processes.ensures.processes) c.requires.turns)

pub returns-in_err-record-clause-fault : goal.returns-in_err-record-clause-fault
returns-in_err-record-clause-fault c =
    let p = c.into_parts-processes in
    let e = err_from_is_err_and c.from_residual.result c.from_residual.ensures.1 in
    rw (e.1, e.2)
    (fault_in (object_in c.args.object) c.args.calls c.args.items.items p.result.3.parts p.result.0 (state_of p.result.4) (map script_call_of c.into_calls.result.items) c.as_slice.result.now
    p.ensures.engine p.ensures.processes p.ensures.opening c.into_calls.ensures c.as_slice.ensures.value c.in_err-record.field-0.0 c.in_err-record.ensures.fault)

pub returns-in_err-record-clause-none : goal.returns-in_err-record-clause-none
returns-in_err-record-clause-none c =
    let p = c.into_parts-processes in
    let e = err_from_is_err_and c.from_residual.result c.from_residual.ensures.1 in
    let o = object_in c.args.object in
    rw (e.1, e.2)
    (none_in o c.requires.sound c.states_are_objects.ensures c.too_long_items_are_no_run.ensures c.args.calls c.args.items.items c.in_err-record.field-0.0
    (fault_in (object_in c.args.object) c.args.calls c.args.items.items p.result.3.parts p.result.0 (state_of p.result.4) (map script_call_of c.into_calls.result.items) c.as_slice.result.now
    p.ensures.engine p.ensures.processes p.ensures.opening c.into_calls.ensures c.as_slice.ensures.value c.in_err-record.field-0.0 c.in_err-record.ensures.fault))

pub returns-clause-shows : goal.returns-clause-shows
returns-clause-shows c =
    let p = c.into_parts-processes in
    let told = c.begun_by.ensures ∙ ap (λ (was : Option Activation). record (record_of c.in_ok-record.record) { carried = was }) c.carried_state.ensures in
    subst (λ (r : Record). Shows (object_in c.args.object) c.args.calls c.args.items.items r) (sym told)
    (shows_in (object_in c.args.object) c.args.calls c.args.items.items p.result.3.parts p.result.0 (state_of p.result.4) (map script_call_of c.into_calls.result.items) c.as_slice.result.now
    p.ensures.engine p.ensures.processes p.ensures.opening c.into_calls.ensures c.as_slice.ensures.value (record_of c.in_ok-record.record) p.result.5 p.ensures.carried c.in_ok-record.ensures.recorded)

pub returns-clause-meant : goal.returns-clause-meant
returns-clause-meant c =
    let p = c.into_parts-processes in
    subst (λ (r : Record). IsMeantIn (object_in c.args.object) r) (sym c.begun_by.ensures)
    (meant_in (object_in c.args.object) c.requires.sound c.states_are_objects.ensures (parts_of p.result.2) p.result.3.parts (state_of p.result.4) p.ensures.layout p.ensures.engine p.ensures.opening
    (record_of c.in_ok-record.record) _ c.in_ok-record.ensures.meant)

pub returns-clause-exports : goal.returns-clause-exports
returns-clause-exports c = λ id call has.
    let p = c.into_parts-processes in
    fits_program (object_in c.args.object) c.requires.sound p.result.3.parts p.ensures.engine call
    (c.in_ok-record.ensures.begun id call (subst (λ (r : Record). Contains r.history (Begin id call)) c.begun_by.ensures has))
