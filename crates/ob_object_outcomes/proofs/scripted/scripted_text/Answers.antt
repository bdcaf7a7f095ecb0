-- By what is compiled and what is read.
use Rattle.std.proofs.Common.{◌∙◌, All, ap, sym, subst}
use Rattle.std.proofs.lemmas.Result.{err_from_is_err_and}
use Rattle.ob_checked.specs.Exports.{signatures}
use Rattle.ob_interface.specs.Export.{CallFits}
use Rattle.ob_object_compile.specs.View.{asked_of, object_in}
use Rattle.ob_object_outcomes.proofs.Fitting.{all_fit}
use Rattle.ob_object_outcomes.specs.Scripts.{scripts_by}
use Rattle.ob_object_calls.proofs.Faults.{compile_refused, script_refused}
use Rattle.ob_text_scripts.specs.Script.{IsScript, IsScriptFault}
use Rattle.ob_text_words.specs.ScriptCalls.{ScriptCall, object_call}
use Rattle.ob_typing.specs.Program.{Program}
use Rattle.ob_object_outcomes.proofs.scripted.scripted_text.Goals as goal

pub returns-in_err-object-clause-refused : goal.returns-in_err-object-clause-refused
returns-in_err-object-clause-refused c =
    let p = err_from_is_err_and c.from_residual.result c.from_residual.ensures.1 in
    rw (p.1, p.2) (compile_refused (asked_of c.args.asked) c.args.script.now c.in_err-object.field-0.0 c.in_err-object.ensures.refused)

pub returns-in_err-read-clause-refused : goal.returns-in_err-read-clause-refused
returns-in_err-read-clause-refused c =
    let a = asked_of c.args.asked in
    let p = err_from_is_err_and c.from_residual-in_err-read.result c.from_residual-in_err-read.ensures.1 in
    rw (p.1, p.2)
    (script_refused a c.args.script.now (object_in c.in_ok-object.object) c.in_ok-object.ensures.object c.in_ok-object.ensures.alone c.in_err-read.field-0.0
    (subst (λ (q : Program). IsScriptFault (signatures q) a.processes c.args.script.now c.in_err-read.field-0.0) c.checked.ensures.program c.in_err-read.ensures.fault))

pub returns-clause-scripted : goal.returns-clause-scripted
returns-clause-scripted c =
    let a = asked_of c.args.asked in
    let calls = c.in_ok-read.read in
    record {
      compiled = c.in_ok-object.ensures.object;
      calls = calls;
      read = subst (λ (q : Program). IsScript (signatures q) a.processes c.args.script.now calls) c.checked.ensures.program c.in_ok-read.ensures.script;
      each = c.in_ok-scripts.ensures ∙ ap (scripts_by a.processes) c.calls.ensures;
    }

pub returns-clause-fitting : goal.returns-clause-fitting
returns-clause-fitting c =
    let a = asked_of c.args.asked in
    let p = (object_in c.in_ok-object.object).program in
    let calls = c.in_ok-read.read in
    let fits = subst (λ (q : Program). All (λ (x : ScriptCall). CallFits (signatures q) (object_call x)) calls) c.checked.ensures.program c.in_ok-read.ensures.fit in
    subst (All (All (CallFits (signatures p)))) (sym (c.in_ok-scripts.ensures ∙ ap (scripts_by a.processes) c.calls.ensures)) (all_fit (CallFits (signatures p)) a.processes calls fits)
