use Rattle.std.proofs.Common.{◌<◌, ◌∙◌, ℕ, All, ap, map, subst, sym}
use Rattle.std.proofs.lemmas.Result.{IfErr-weaker, IfOk-weaker}
use Rattle.ob_code_scheme.specs.Layout.{encoded}
use Rattle.ob_object_compile.specs.View.{object_in}
use Rattle.ob_object_perform.proofs.Mapped.{callers_below, fit_engine}
use Rattle.ob_object_perform.proofs.PerformObjects.{lawful}
use Rattle.ob_object_perform.proofs.Runs.{none_in}
use Rattle.ob_object_perform.proofs.Behinds.{behind_in, fault_in, sizes_are}
use Rattle.ob_text_words.specs.Schedule.{process_of}
use Rattle.ob_text_words.specs.ScriptCalls.{script_call_of}
use Rattle.ob_object_perform.proofs.stating.machine_behind.Goals as goal

pub play-requires-clause-opening : goal.play-requires-clause-opening
play-requires-clause-opening c =
    let p = c.into_parts-processes in
    lawful (object_in c.args.object) c.requires.sound c.states_are_objects.ensures p.result.3.parts c.as_slice.result.now p.ensures.engine
    (c.as_slice.ensures.value ∙ c.in_ok-words.ensures ∙ ap encoded p.ensures.opening)

pub play-requires-clause-callers : goal.play-requires-clause-callers
play-requires-clause-callers c =
    callers_below (object_in c.args.object) c.args.calls c.into_calls.result.items c.into_calls.ensures
    c.into_parts-processes.result.0 c.into_parts-processes.ensures.processes c.requires.callers

pub play-requires-clause-fits : goal.play-requires-clause-fits
play-requires-clause-fits c =
    let p = c.into_parts-processes in
    fit_engine (object_in c.args.object) c.args.calls c.into_calls.result.items c.into_calls.ensures c.requires.sound p.result.3.parts p.ensures.engine c.requires.fit

pub play-requires-clause-items : goal.play-requires-clause-items
play-requires-clause-items c =
    rw c.as_slice-2.ensures.value
    (subst (λ (k : ℕ). All (λ item. process_of item < k) c.args.items.items) (sym c.into_parts-processes.ensures.processes) c.requires.turns)

pub returns-clause-sizes : goal.returns-clause-sizes
returns-clause-sizes c =
    let p = c.into_parts-processes in
    let words = c.as_slice.ensures.value ∙ c.in_ok-words.ensures ∙ ap encoded p.ensures.opening in
    IfOk-weaker c.play.result _ _
    (λ machine h. sizes_are (object_in c.args.object) c.args.calls c.args.items.items p.result.3.parts p.result.0
    c.as_slice.result.now (map script_call_of c.into_calls.result.items) c.as_slice-2.result.now
    p.ensures.engine p.ensures.processes words c.into_calls.ensures c.as_slice-2.ensures.value machine.sizes h)
    c.play.ensures.sizes

pub returns-clause-behind : goal.returns-clause-behind
returns-clause-behind c =
    let p = c.into_parts-processes in
    let words = c.as_slice.ensures.value ∙ c.in_ok-words.ensures ∙ ap encoded p.ensures.opening in
    IfOk-weaker c.play.result _ _
    (λ machine h. behind_in (object_in c.args.object) c.args.calls c.args.items.items p.result.3.parts p.result.0
    c.as_slice.result.now (map script_call_of c.into_calls.result.items) c.as_slice-2.result.now
    p.ensures.engine p.ensures.processes words c.into_calls.ensures c.as_slice-2.ensures.value machine.state h)
    c.play.ensures.played

pub returns-clause-fault : goal.returns-clause-fault
returns-clause-fault c =
    let p = c.into_parts-processes in
    let words = c.as_slice.ensures.value ∙ c.in_ok-words.ensures ∙ ap encoded p.ensures.opening in
    IfErr-weaker c.play.result _ _
    (λ fault h. fault_in (object_in c.args.object) c.args.calls c.args.items.items p.result.3.parts p.result.0
    c.as_slice.result.now (map script_call_of c.into_calls.result.items) c.as_slice-2.result.now
    p.ensures.engine p.ensures.processes words c.into_calls.ensures c.as_slice-2.ensures.value fault h)
    c.play.ensures.fault

pub returns-clause-none : goal.returns-clause-none
returns-clause-none c =
    IfErr-weaker c.play.result _ _
    (λ fault h. none_in (object_in c.args.object) c.requires.sound c.states_are_objects.ensures c.too_long_items_are_no_run.ensures c.args.calls c.args.items.items fault h)
    (returns-clause-fault c)
