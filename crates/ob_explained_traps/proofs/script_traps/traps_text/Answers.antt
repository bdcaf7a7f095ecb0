use Rattle.std.proofs.Common.{◌∙◌, All, ap, length, subst, sym}
use Rattle.std.proofs.lemmas.List.{length-map}
use Rattle.std.proofs.lemmas.Result.{err_from_is_err_and}
use Rattle.ob_checked.specs.CheckedModule.{program_in}
use Rattle.ob_checked.specs.Exports.{signatures}
use Rattle.ob_explained.specs.Sources.{source_of}
use Rattle.ob_interface.specs.Export.{CallFits}
use Rattle.ob_object_compile.specs.View.{asked_of, object_in}
use Rattle.ob_object_calls.proofs.Faults.{compile_refused, script_refused}
use Rattle.ob_text_scripts.specs.Script.{IsScript, IsScriptFault}
use Rattle.ob_text_words.specs.ScriptCalls.{ScriptCall, object_call, script_call_of}
use Rattle.ob_typing.specs.Program.{Program}
use Rattle.ob_explained_traps.specs.ScriptTraps.{traps_text}
use Rattle.ob_explained_traps.proofs.Lines.{script_lined}
use Rattle.ob_explained_traps.proofs.TrapsOfCalls.{all_told}
use Rattle.ob_explained_traps.proofs.script_traps.traps_text.Goals as goal

pub returns-in_err-compiled-clause-refused : goal.returns-in_err-compiled-clause-refused
returns-in_err-compiled-clause-refused c =
    let p = err_from_is_err_and c.from_residual.result c.from_residual.ensures.1 in
    rw (p.1, p.2) (compile_refused (asked_of c.args.asked) c.args.script.text.now c.in_err-compiled.field-0.0 c.in_err-compiled.ensures.refused)

pub returns-in_err-scripts-clause-refused : goal.returns-in_err-scripts-clause-refused
returns-in_err-scripts-clause-refused c =
    let a = asked_of c.args.asked in
    let p = err_from_is_err_and c.from_residual-in_err-scripts.result c.from_residual-in_err-scripts.ensures.1 in
    rw (p.1, p.2)
    (script_refused a c.args.script.text.now (object_in c.in_ok-compiled.compiled) c.in_ok-compiled.ensures.object c.in_ok-compiled.ensures.alone c.in_err-scripts.field-0.0
    (subst (λ (q : Program). IsScriptFault (signatures q) a.processes c.args.script.text.now c.in_err-scripts.field-0.0) c.checked.ensures.program c.in_err-scripts.ensures.fault))

pub told_of_calls-requires : goal.told_of_calls-requires
told_of_calls-requires c =
    script_lined (signatures (program_in c.checked.result.now)) c.args.asked.processes c.args.script.text.now _ c.in_ok-scripts.ensures.script
    ∙ sym (ap length c.calls.ensures) ∙ length-map c.calls.result.now script_call_of

pub returns-clause-told : goal.returns-clause-told
returns-clause-told c =
    let a = asked_of c.args.asked in
    let object = object_in c.in_ok-compiled.compiled in
    let read = subst (λ (p : Program). IsScript (signatures p) a.processes c.args.script.text.now c.in_ok-scripts.scripts) c.checked.ensures.program c.in_ok-scripts.ensures.script in
    let fit = subst (λ (p : Program). All (λ (x : ScriptCall). CallFits (signatures p) (object_call x)) c.in_ok-scripts.scripts) c.checked.ensures.program c.in_ok-scripts.ensures.fit in
    all_told c.args.module_name.now a (source_of c.args.script) object c.in_ok-scripts.scripts _ c.in_ok-compiled.ensures.object c.in_ok-compiled.ensures.one_tree read fit
    (c.in_ok-told.ensures ∙ ap (traps_text (record { name = c.args.module_name.now; text = a.text }) (source_of c.args.script) object) c.calls.ensures)
