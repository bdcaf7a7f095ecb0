-- What was read is what each run asks for.
use Rattle.std.proofs.Common.{◌<◌, All, List, subst, sym}
use Rattle.ob_code_correct.specs.Compiled.{IsFitting}
use Rattle.ob_object_compile.specs.View.{object_in}
use Rattle.ob_text_words.specs.Schedule.{process_of}
use Rattle.ob_text_words.specs.declared.item.Item.{Item}
use Rattle.ob_text_words.specs.ScriptCalls.{object_call, script_call_of}
use Rattle.ob_text_words.specs.declared.script_call.ScriptCall.{ScriptCall}
use Rattle.ob_code_refusals.proofs.add.Goals as goal

pub by_steps-requires-clause-callers : goal.by_steps-requires-clause-callers
by_steps-requires-clause-callers g c =
    let o = object_in c.in_ok-object.object in
    subst (λ (xs : List ScriptCall). All (λ x. x.process < o.processes) xs) (sym c.as_slice-calls.ensures.value) c.in_ok-object.ensures.callers

pub by_steps-requires-clause-fits : goal.by_steps-requires-clause-fits
by_steps-requires-clause-fits g c =
    let o = object_in c.in_ok-object.object in
    subst (λ (xs : List ScriptCall). All (λ x. IsFitting o.engine.exports (object_call (script_call_of x))) xs) (sym c.as_slice-calls.ensures.value) c.in_ok-object.ensures.fits

pub by_steps-requires-clause-turns : goal.by_steps-requires-clause-turns
by_steps-requires-clause-turns g c =
    let o = object_in c.in_ok-object.object in
    subst (λ (xs : List Item). All (λ x. process_of x < o.processes) xs) (sym c.as_slice.ensures.value) c.in_ok-object.ensures.turns

pub by_floor-requires-clause-callers : goal.by_floor-requires-clause-callers
by_floor-requires-clause-callers g c =
    let o = object_in c.in_ok-object.object in
    subst (λ (xs : List ScriptCall). All (λ x. x.process < o.processes) xs) (sym c.as_slice-calls.ensures.value) c.in_ok-object.ensures.callers

pub by_floor-requires-clause-fits : goal.by_floor-requires-clause-fits
by_floor-requires-clause-fits g c =
    let o = object_in c.in_ok-object.object in
    subst (λ (xs : List ScriptCall). All (λ x. IsFitting o.engine.exports (object_call (script_call_of x))) xs) (sym c.as_slice-calls.ensures.value) c.in_ok-object.ensures.fits

pub by_desk-requires-clause-callers : goal.by_desk-requires-clause-callers
by_desk-requires-clause-callers g c =
    let o = object_in c.in_ok-object.object in
    subst (λ (xs : List ScriptCall). All (λ x. x.process < o.processes) xs) (sym c.as_slice-calls.ensures.value) c.in_ok-object.ensures.callers

pub by_desk-requires-clause-fits : goal.by_desk-requires-clause-fits
by_desk-requires-clause-fits g c =
    let o = object_in c.in_ok-object.object in
    subst (λ (xs : List ScriptCall). All (λ x. IsFitting o.engine.exports (object_call (script_call_of x))) xs) (sym c.as_slice-calls.ensures.value) c.in_ok-object.ensures.fits
