use Rattle.std.proofs.Common.{◌<◌, ℕ, All, ap, subst, sym}
use Rattle.std.proofs.lemmas.Result.{err_from_is_err_and}
use Rattle.ob_checked.specs.Exports.{signatures}
use Rattle.ob_code_correct.specs.CodeMeaning.{EngineParts}
use Rattle.ob_code_correct.specs.Compiled.{Fits}
use Rattle.ob_interface.specs.Export.{CallFits}
use Rattle.ob_object_compile.proofs.Openings.{module_resolved}
use Rattle.ob_object_compile.specs.View.{asked_of, object_in}
use Rattle.ob_object_calls.proofs.Faults.{compile_refused, script_refused}
use Rattle.ob_object_calls.proofs.SequenceFitting.{calls_fit}
use Rattle.ob_object_calls.proofs.Runs.{each}
use Rattle.ob_object_calls.proofs.ToldNamed.{tells}
use Rattle.ob_text_scripts.specs.Script.{IsScript, IsScriptFault}
use Rattle.ob_text_words.specs.ScriptCalls.{ScriptCall, object_call, script_call_of}
use Rattle.ob_typing.specs.Program.{Program}
use Rattle.ob_object_calls.proofs.details.seq_asked_told.Goals as goal

pub returns-in_err-object-clause-refused : goal.returns-in_err-object-clause-refused
returns-in_err-object-clause-refused c =
    let p = err_from_is_err_and c.from_residual.result c.from_residual.ensures.1 in
    rw (p.1, p.2) (compile_refused (asked_of c.args.asked) c.args.script.now c.in_err-object.field-0.0 c.in_err-object.ensures.refused)

pub returns-in_err-scripts-clause-refused : goal.returns-in_err-scripts-clause-refused
returns-in_err-scripts-clause-refused c =
    let a = asked_of c.args.asked in
    let p = err_from_is_err_and c.from_residual-in_err-scripts.result c.from_residual-in_err-scripts.ensures.1 in
    rw (p.1, p.2)
    (script_refused a c.args.script.now (object_in c.in_ok-object.object) c.in_ok-object.ensures.object c.in_ok-object.ensures.alone c.in_err-scripts.field-0.0
    (subst (λ (q : Program). IsScriptFault (signatures q) a.processes c.args.script.now c.in_err-scripts.field-0.0) c.checked.ensures.program c.in_err-scripts.ensures.fault))

pub told_text-requires-clause-sound : goal.told_text-requires-clause-sound
told_text-requires-clause-sound c =
    c.compilations_are_sound.ensures.coded (asked_of c.args.asked) (object_in c.in_ok-object.object) c.in_ok-object.ensures.object

pub told_text-requires-clause-fit : goal.told_text-requires-clause-fit
told_text-requires-clause-fit c =
    let a = asked_of c.args.asked in
    let o = object_in c.in_ok-object.object in
    let calls = c.in_ok-scripts.scripts in
    let fits = subst (λ (q : Program). All (λ (x : ScriptCall). CallFits (signatures q) (object_call x)) calls) c.checked.ensures.program c.in_ok-scripts.ensures.fit in
    let read = subst (λ (q : Program). IsScript (signatures q) a.processes c.args.script.now calls) c.checked.ensures.program c.in_ok-scripts.ensures.script in
    each (λ (x : ScriptCall). Fits o.program (object_call x)) script_call_of c.calls.result.now
    (subst (All (λ (x : ScriptCall). Fits o.program (object_call x))) (sym c.calls.ensures) (calls_fit o.program a.processes c.args.script.now calls read fits))

pub told_text-requires-clause-processes : goal.told_text-requires-clause-processes
told_text-requires-clause-processes c =
    let o = object_in c.in_ok-object.object in
    let below = subst (λ (k : ℕ). All (λ (x : ScriptCall). x.process < k) c.in_ok-scripts.scripts) (sym c.in_ok-object.ensures.object.processes) c.in_ok-scripts.ensures.processes in
    each (λ (x : ScriptCall). x.process < o.processes) script_call_of c.calls.result.now
    (subst (All (λ (x : ScriptCall). x.process < o.processes)) (sym c.calls.ensures) below)

pub returns-clause-run : goal.returns-clause-run
returns-clause-run c =
    let a = asked_of c.args.asked in
    let o = object_in c.in_ok-object.object in
    let compiled = c.in_ok-object.ensures.object in
    let calls = c.in_ok-scripts.scripts in
    let fits = subst (λ (q : Program). All (λ (x : ScriptCall). CallFits (signatures q) (object_call x)) calls) c.checked.ensures.program c.in_ok-scripts.ensures.fit in
    let fit = each (λ (x : ScriptCall). CallFits (signatures o.program) (object_call x)) script_call_of c.calls.result.now
    (subst (All (λ (x : ScriptCall). CallFits (signatures o.program) (object_call x))) (sym c.calls.ensures) fits) in
    let budget_is = ap (λ (e : EngineParts). e.budget) compiled.engine_is in
    let told = rw budget_is at c.in_ok-told_text.ensures in
    record {
      object = o;
      compiled = compiled;
      calls = calls;
      read = subst (λ (q : Program). IsScript (signatures q) a.processes c.args.script.now calls) c.checked.ensures.program c.in_ok-scripts.ensures.script;
      tells = rw (← c.calls.ensures)
          (tells c.args.details o.program (module_resolved a.text o.program compiled.is_module) a.budget compiled.opens.state o.opening compiled.opens.same c.calls.result.now fit _ told);
    }
