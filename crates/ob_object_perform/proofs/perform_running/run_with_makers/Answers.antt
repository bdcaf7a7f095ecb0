use Rattle.std.proofs.Common.{◌∙◌, ap, map}
use Rattle.ob_object_compile.specs.View.{object_in}
use Rattle.ob_object_perform.proofs.Mapped.{callers_below, fit_engine}
use Rattle.ob_object_perform.proofs.PerformObjects.{lawful}
use Rattle.ob_object_perform.proofs.Runs.{makers_in}
use Rattle.ob_text_record.specs.Record.{record_of}
use Rattle.ob_text_words.specs.ScriptCalls.{script_call_of}
use Rattle.wf_table.specs.Schedule.{steps_of}
use Rattle.ob_object_perform.proofs.perform_running.run_with_makers.Goals as goal

pub makers-requires-clause-opening : goal.makers-requires-clause-opening
makers-requires-clause-opening c =
    let again = c.in_ok-checked.again in
    let ensures = c.in_ok-checked.ensures in
    lawful (object_in c.args.object) c.requires.ready.sound c.states_are_objects.ensures again.engine.parts c.as_slice.result.now
    ensures.engine (c.as_slice.ensures.value ∙ ensures.opening)

pub makers-requires-clause-callers : goal.makers-requires-clause-callers
makers-requires-clause-callers c =
    let again = c.in_ok-checked.again in
    let ensures = c.in_ok-checked.ensures in
    callers_below (object_in c.args.object) c.args.calls c.into_calls.result.items (c.into_calls.ensures ∙ ensures.calls)
    again.processes ensures.processes c.requires.ready.callers

pub makers-requires-clause-fits : goal.makers-requires-clause-fits
makers-requires-clause-fits c =
    let again = c.in_ok-checked.again in
    let ensures = c.in_ok-checked.ensures in
    fit_engine (object_in c.args.object) c.args.calls c.into_calls.result.items (c.into_calls.ensures ∙ ensures.calls)
    c.requires.ready.sound again.engine.parts ensures.engine c.requires.ready.fit

pub returns-clause-makers : goal.returns-clause-makers
returns-clause-makers c =
    let again = c.in_ok-checked.again in
    let ensures = c.in_ok-checked.ensures in
    makers_in (object_in c.args.object) c.args.calls (record_of c.in_ok-checked.record) c.in_ok-makers.makers.items again.engine.parts again.processes c.as_slice.result.now (map script_call_of c.into_calls.result.items) (steps_of c.as_slice-2.result.now)
    ensures.engine ensures.processes (c.as_slice.ensures.value ∙ ensures.opening) (c.into_calls.ensures ∙ ensures.calls) (ap steps_of c.as_slice-2.ensures.value) c.in_ok-makers.ensures.makers
