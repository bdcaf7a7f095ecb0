use Rattle.std.proofs.Common.{◌∙◌, ap, map}
use Rattle.ob_object_compile.specs.View.{object_in}
use Rattle.ob_object_perform.proofs.Mapped.{callers_below, fit_engine}
use Rattle.ob_object_perform.proofs.PerformObjects.{lawful}
use Rattle.ob_text_record.specs.Record.{record_of}
use Rattle.ob_object_perform.proofs.Spending.{ended_in}
use Rattle.ob_text_words.specs.ScriptCalls.{script_call_of}
use Rattle.wf_table.specs.Schedule.{steps_of}
use Rattle.ob_object_perform.proofs.spent_running.run_with_steps.Goals as goal

pub ended_calls-requires-clause-opening : goal.ended_calls-requires-clause-opening
ended_calls-requires-clause-opening c =
    let again = c.in_ok-checked.again in
    let ensures = c.in_ok-checked.ensures in
    lawful (object_in c.args.object) c.requires.ready.sound c.states_are_objects.ensures again.engine.parts c.as_slice.result.now
    ensures.engine (c.as_slice.ensures.value ∙ ensures.opening)

pub ended_calls-requires-clause-callers : goal.ended_calls-requires-clause-callers
ended_calls-requires-clause-callers c =
    let again = c.in_ok-checked.again in
    let ensures = c.in_ok-checked.ensures in
    callers_below (object_in c.args.object) c.args.calls c.into_calls.result.items (c.into_calls.ensures ∙ ensures.calls)
    again.processes ensures.processes c.requires.ready.callers

pub ended_calls-requires-clause-fits : goal.ended_calls-requires-clause-fits
ended_calls-requires-clause-fits c =
    let again = c.in_ok-checked.again in
    let ensures = c.in_ok-checked.ensures in
    fit_engine (object_in c.args.object) c.args.calls c.into_calls.result.items (c.into_calls.ensures ∙ ensures.calls)
    c.requires.ready.sound again.engine.parts ensures.engine c.requires.ready.fit

pub returns-clause-ended : goal.returns-clause-ended
returns-clause-ended c =
    let again = c.in_ok-checked.again in
    let ensures = c.in_ok-checked.ensures in
    ended_in (object_in c.args.object) c.args.calls (record_of c.in_ok-checked.record) c.in_ok-ended.ended.items again.engine.parts again.processes c.as_slice.result.now (map script_call_of c.into_calls.result.items) (steps_of c.as_slice-2.result.now)
    ensures.engine ensures.processes (c.as_slice.ensures.value ∙ ensures.opening) (c.into_calls.ensures ∙ ensures.calls) (ap steps_of c.as_slice-2.ensures.value) c.in_ok-ended.ensures
