-- What was read of the texts is what a desk asks for.
use Rattle.std.proofs.Common.{◌<◌, List, All, subst, sym}
use Rattle.ob_code_correct.specs.Compiled.{IsFitting}
use Rattle.ob_object_compile.specs.View.{object_in}
use Rattle.ob_text_words.specs.ScriptCalls.{object_call, script_call_of}
use Rattle.ob_text_words.specs.declared.script_call.ScriptCall.{ScriptCall}
use Rattle.ob_desk_refusals.proofs.desks.opened.Goals as goal

pub opened_desk-requires-clause-callers : goal.opened_desk-requires-clause-callers
opened_desk-requires-clause-callers c =
    let o = object_in c.in_ok-object.object in
    subst (λ (xs : List ScriptCall). All (λ x. x.process < o.processes) xs) (sym c.as_slice.ensures.value) c.in_ok-object.ensures.callers

pub opened_desk-requires-clause-fits : goal.opened_desk-requires-clause-fits
opened_desk-requires-clause-fits c =
    let o = object_in c.in_ok-object.object in
    subst (λ (xs : List ScriptCall). All (λ x. IsFitting o.engine.exports (object_call (script_call_of x))) xs) (sym c.as_slice.ensures.value) c.in_ok-object.ensures.fits
