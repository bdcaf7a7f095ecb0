-- What holds of the object's processes and engine holds of the machine's.
use Rattle.std.proofs.Common.{◌<◌, All, subst, sym, ℕ}
use Rattle.ob_code_correct.specs.CodeMeaning.{EngineParts}
use Rattle.ob_code_correct.specs.Compiled.{IsFitting}
use Rattle.ob_text_words.specs.ScriptCalls.{object_call, script_call_of}
use Rattle.ob_text_words.specs.declared.script_call.ScriptCall.{ScriptCall}
use Rattle.ob_code_refusals.proofs.machine_runs.by_steps.Goals as goal

pub submit_all-requires-clause-callers : goal.submit_all-requires-clause-callers
submit_all-requires-clause-callers g c =
    subst (λ (n : ℕ). All (λ (x : ScriptCall). x.process < n) c.args.calls.now) (sym c.in_ok-machine.ensures.processes) c.requires.callers

pub submit_all-requires-clause-fits : goal.submit_all-requires-clause-fits
submit_all-requires-clause-fits g c =
    subst (λ (parts : EngineParts). All (λ (x : ScriptCall). IsFitting parts.exports (object_call (script_call_of x))) c.args.calls.now) (sym c.in_ok-machine.ensures.code) c.requires.fits
