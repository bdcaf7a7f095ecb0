use Rattle.std.proofs.Common.{◌∙◌, ◌<◌, ◌≤◌, ℕ, All, Option, ap, map, subst, sym}
use Rattle.std.proofs.lemmas.Result.{err_from_is_err_and}
use Rattle.ob_layout.specs.Layout.{layout_of, parts_of}
use Rattle.ob_meaning.specs.ByNameObject.{most_turns}
use Rattle.ob_object_compile.specs.View.{tree_object_in}
use Rattle.ob_object_perform.proofs.Mapped.{callers_below, fit_engine}
use Rattle.ob_object_perform.proofs.PerformObjects.{object_for}
use Rattle.ob_object_perform.proofs.Runs.{fault_in, meant_in, shows_in}
use Rattle.ob_object_perform.specs.Performance.{IsMeantIn, Shows}
use Rattle.ob_text_record.specs.Record.{Record, carried_from, record_of}
use Rattle.ob_meaning.specs.ByPositionStore.{Activation}
use Rattle.ob_object_perform.proofs.ByCode.{none_by_code}
use Rattle.ob_object_perform.proofs.TreeObjects.{engine_is}
use Rattle.ob_text_words.specs.Schedule.{process_of}
use Rattle.ob_store.specs.View.{state_of}
use Rattle.ob_text_words.specs.ScriptCalls.{script_call_of}
use Rattle.ob_tree.specs.View.{tree_parts_in}
use Rattle.ob_object_perform.proofs.tree_running.run_on_tree.Goals as goal

pub new-requires-clause-layout : goal.new-requires-clause-layout
new-requires-clause-layout c = c.layout-layout.ensures ∙ c.requires.ready.sound.layout_is ∙ ap layout_of (sym c.checked.ensures.program)

pub new-requires-clause-budget : goal.new-requires-clause-budget
new-requires-clause-budget c = subst (λ (k : ℕ). k ≤ most_turns) (sym c.budget.ensures) c.requires.within

pub record_tree_run-requires-clause-object : goal.record_tree_run-requires-clause-object
record_tree_run-requires-clause-object c =
    let o = tree_object_in c.args.object.now in
    let sound = c.requires.ready.sound in
    let parts = tree_parts_in c.in_ok-engine.engine in
    object_for o sound c.states_are_objects.ensures parts (state_of c.opening.result.now) (engine_is o sound parts _ _ c.in_ok-engine.ensures c.checked.ensures.program c.budget.ensures) c.opening.ensures
    (parts_of c.layout-layout.result.now) c.layout-layout.ensures

pub record_tree_run-requires-clause-callers : goal.record_tree_run-requires-clause-callers
record_tree_run-requires-clause-callers c =
    callers_below (tree_object_in c.args.object.now) c.args.calls c.into_calls.result.items c.into_calls.ensures
    c.processes.result c.processes.ensures c.requires.ready.callers

pub record_tree_run-requires-clause-fits : goal.record_tree_run-requires-clause-fits
record_tree_run-requires-clause-fits c =
    let o = tree_object_in c.args.object.now in
    let sound = c.requires.ready.sound in
    let parts = tree_parts_in c.in_ok-engine.engine in
    let is = engine_is o sound parts _ _ c.in_ok-engine.ensures c.checked.ensures.program c.budget.ensures in
    fit_engine o c.args.calls c.into_calls.result.items c.into_calls.ensures sound parts is c.requires.ready.fit

pub record_tree_run-requires-clause-items : goal.record_tree_run-requires-clause-items
record_tree_run-requires-clause-items c =
    rw c.as_slice.ensures.value
    (subst (λ (k : ℕ). All (λ item. process_of item < k) c.args.items.items) (sym c.processes.ensures) c.requires.ready.turns)

pub returns-in_err-record-clause-fault : goal.returns-in_err-record-clause-fault
returns-in_err-record-clause-fault c =
    let o = tree_object_in c.args.object.now in
    let parts = tree_parts_in c.in_ok-engine.engine in
    let is = engine_is o c.requires.ready.sound parts _ _ c.in_ok-engine.ensures c.checked.ensures.program c.budget.ensures in
    let p = err_from_is_err_and c.from_residual-in_err-record.result c.from_residual-in_err-record.ensures.1 in
    rw (p.1, p.2)
    (fault_in o c.args.calls c.args.items.items parts c.processes.result (state_of c.opening.result.now) (map script_call_of c.into_calls.result.items) c.as_slice.result.now
    is c.processes.ensures c.opening.ensures c.into_calls.ensures c.as_slice.ensures.value c.in_err-record.field-0.0 c.in_err-record.ensures.fault)

pub returns-in_err-record-clause-none : goal.returns-in_err-record-clause-none
returns-in_err-record-clause-none c =
    let o = tree_object_in c.args.object.now in
    let parts = tree_parts_in c.in_ok-engine.engine in
    let is = engine_is o c.requires.ready.sound parts _ _ c.in_ok-engine.ensures c.checked.ensures.program c.budget.ensures in
    let p = err_from_is_err_and c.from_residual-in_err-record.result c.from_residual-in_err-record.ensures.1 in
    rw (p.1, p.2)
    (none_by_code o c.args.calls c.args.items.items c.in_err-record.field-0.0
    (fault_in o c.args.calls c.args.items.items parts c.processes.result (state_of c.opening.result.now) (map script_call_of c.into_calls.result.items) c.as_slice.result.now
    is c.processes.ensures c.opening.ensures c.into_calls.ensures c.as_slice.ensures.value c.in_err-record.field-0.0 c.in_err-record.ensures.fault))

pub returns-clause-shows : goal.returns-clause-shows
returns-clause-shows c =
    let o = tree_object_in c.args.object.now in
    let parts = tree_parts_in c.in_ok-engine.engine in
    let is = engine_is o c.requires.ready.sound parts _ _ c.in_ok-engine.ensures c.checked.ensures.program c.budget.ensures in
    let r = record_of c.in_ok-record.record in
    let was = c.in_ok-carried.ensures ∙ ap (λ (s : Activation). carried_from c.carried.result s) (c.opening-2.ensures ∙ sym c.opening.ensures) in
    let told = c.begun_by.ensures ∙ ap (λ (w : Option Activation). record r { carried = w }) was in
    subst (λ (x : Record). Shows o c.args.calls c.args.items.items x) (sym told)
    (shows_in o c.args.calls c.args.items.items parts c.processes.result (state_of c.opening.result.now) (map script_call_of c.into_calls.result.items) c.as_slice.result.now
    is c.processes.ensures c.opening.ensures c.into_calls.ensures c.as_slice.ensures.value r c.carried.result c.carried.ensures c.in_ok-record.ensures.recorded)

pub returns-clause-meant : goal.returns-clause-meant
returns-clause-meant c =
    let o = tree_object_in c.args.object.now in
    let sound = c.requires.ready.sound in
    let parts = tree_parts_in c.in_ok-engine.engine in
    let is = engine_is o sound parts _ _ c.in_ok-engine.ensures c.checked.ensures.program c.budget.ensures in
    subst (λ (x : Record). IsMeantIn o x) (sym c.begun_by.ensures)
    (meant_in o sound c.states_are_objects.ensures (parts_of c.layout-layout.result.now) parts (state_of c.opening.result.now) c.layout-layout.ensures is c.opening.ensures
    (record_of c.in_ok-record.record) _ c.in_ok-record.ensures.meant)
