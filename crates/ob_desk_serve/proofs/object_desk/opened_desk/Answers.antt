use Rattle.std.proofs.Common.{◌≡◌, ◌∙◌, ◌<◌, ℕ, All, ap, subst, sym}
use Rattle.ob_code_engine.specs.CodeEngine.{CompiledParts}
use Rattle.ob_code_correct.specs.CodeMeaning.{EngineParts}
use Rattle.ob_code_correct.specs.Compiled.{IsFitting}
use Rattle.ob_interface.specs.Call.{ObjectCall}
use Rattle.ob_object_compile.specs.View.{object_in}
use Rattle.ob_desk_serve.proofs.Closed.{lawful_opening}
use Rattle.ob_desk_serve.proofs.Submitted.{all_submitted}
use Rattle.ob_code_scheme.specs.Layout.{encoded}
use Rattle.ob_text_words.specs.ScriptCalls.{object_call, script_call_of}
use Rattle.ob_text_words.specs.declared.script_call.ScriptCall.{ScriptCall}
use Rattle.ob_desk_serve.proofs.object_desk.opened_desk.Goals as goal

pub open-requires-clause-opening : goal.open-requires-clause-opening
open-requires-clause-opening c =
    let o = object_in c.args.object.now in
    let code : c.in_ok-engine.engine.parts ≡ o.engine = ap (λ (x : CompiledParts). x.parts) c.in_ok-engine.ensures ∙ c.engine.ensures in
    lawful_opening o c.in_ok-engine.engine.parts c.in_ok-encode.field-0.items c.requires.sound code (c.in_ok-encode.ensures ∙ ap encoded c.opening.ensures)

pub open-requires-clause-callers : goal.open-requires-clause-callers
open-requires-clause-callers c =
    all_submitted (λ (x : ℕ × ObjectCall). x.0 < c.processes.result) c.in_ok-calls.calls.items c.args.scripts.now c.in_ok-calls.ensures
    (subst (λ (n : ℕ). All (λ (x : ScriptCall). x.process < n) c.args.scripts.now) (sym c.processes.ensures) c.requires.callers)

pub open-requires-clause-fits : goal.open-requires-clause-fits
open-requires-clause-fits c =
    let o = object_in c.args.object.now in
    let code : c.in_ok-engine.engine.parts ≡ o.engine = ap (λ (x : CompiledParts). x.parts) c.in_ok-engine.ensures ∙ c.engine.ensures in
    all_submitted (λ (x : ℕ × ObjectCall). IsFitting c.in_ok-engine.engine.parts.exports x.1) c.in_ok-calls.calls.items c.args.scripts.now c.in_ok-calls.ensures
    (subst (λ (parts : EngineParts). All (λ (x : ScriptCall). IsFitting parts.exports (object_call (script_call_of x))) c.args.scripts.now) (sym code) c.requires.fits)
