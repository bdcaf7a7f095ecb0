-- The words of an object's opening are lawful for its engine, and the calls of its scripts fit it.
use Rattle.std.proofs.Common.{◌≡◌, ◌∙◌, ◌<◌, ℕ, All, ap, subst, sym}
use Rattle.ob_code_engine.specs.CodeEngine.{CompiledParts}
use Rattle.ob_code_correct.specs.CodeMeaning.{EngineParts}
use Rattle.ob_code_correct.specs.Compiled.{IsFitting}
use Rattle.ob_code_scheme.specs.Layout.{encoded}
use Rattle.ob_desk_serve.proofs.Closed.{lawful_opening}
use Rattle.ob_desk_serve.proofs.Submitted.{all_submitted}
use Rattle.ob_interface.specs.Call.{ObjectCall}
use Rattle.ob_object_compile.specs.View.{object_in}
use Rattle.ob_text_words.specs.ScriptCalls.{object_call, script_call_of}
use Rattle.ob_text_words.specs.declared.script_call.ScriptCall.{ScriptCall}
use Rattle.ob_code_refusals.proofs.floors.opened.Goals as goal

pub new-requires-clause-opening : goal.new-requires-clause-opening
new-requires-clause-opening c =
    let o = object_in c.args.object.now in
    let code : c.in_ok-engine.engine.parts ≡ o.engine = ap (λ (x : CompiledParts). x.parts) c.in_ok-engine.ensures ∙ c.engine.ensures in
    lawful_opening o c.in_ok-engine.engine.parts c.in_ok-encode.field-0.items c.requires.sound code (c.in_ok-encode.ensures ∙ ap encoded c.opening.ensures)

pub new-requires-clause-callers : goal.new-requires-clause-callers
new-requires-clause-callers c =
    all_submitted (λ (x : ℕ × ObjectCall). x.0 < c.processes.result) c.in_ok-calls.calls.items c.args.calls.now c.in_ok-calls.ensures
    (subst (λ (n : ℕ). All (λ (x : ScriptCall). x.process < n) c.args.calls.now) (sym c.processes.ensures) c.requires.callers)

pub new-requires-clause-fits : goal.new-requires-clause-fits
new-requires-clause-fits c =
    let o = object_in c.args.object.now in
    let code : c.in_ok-engine.engine.parts ≡ o.engine = ap (λ (x : CompiledParts). x.parts) c.in_ok-engine.ensures ∙ c.engine.ensures in
    all_submitted (λ (x : ℕ × ObjectCall). IsFitting c.in_ok-engine.engine.parts.exports x.1) c.in_ok-calls.calls.items c.args.calls.now c.in_ok-calls.ensures
    (subst (λ (parts : EngineParts). All (λ (x : ScriptCall). IsFitting parts.exports (object_call (script_call_of x))) c.args.calls.now) (sym code) c.requires.fits)
