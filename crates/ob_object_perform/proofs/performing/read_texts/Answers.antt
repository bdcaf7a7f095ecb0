use Rattle.std.proofs.Common.{◌≡◌, ◌<◌, ℕ, List, All, subst, sym}
use Rattle.std.proofs.lemmas.Result.{err_from_is_err_and}
use Rattle.ob_checked.specs.Exports.{signatures}
use Rattle.ob_interface.specs.Export.{CallFits}
use Rattle.ob_object_compile.specs.Compilation.{IsShort}
use Rattle.ob_object_compile.specs.View.{object_in}
use Rattle.ob_object_perform.proofs.PerformObjects.{schedule_below}
use Rattle.ob_object_perform.proofs.Refusals.{compile_refused, schedule_refused, script_refused}
use Rattle.ob_object_perform.proofs.ScriptFits.{calls_fit}
use Rattle.ob_object_perform.specs.Texts.{texts_of}
use Rattle.ob_text_words.specs.Schedule.{process_of}
use Rattle.ob_text_scripts.specs.Script.{IsScript, IsScriptFault}
use Rattle.ob_text_words.specs.ScriptCalls.{ScriptCall, object_call}
use Rattle.ob_typing.specs.Program.{Program}
use Rattle.ob_object_perform.proofs.performing.read_texts.Goals as goal

pub returns-in_err-object-clause-refused : goal.returns-in_err-object-clause-refused
returns-in_err-object-clause-refused c =
    let p = err_from_is_err_and c.from_residual.result c.from_residual.ensures.1 in
    rw (p.1, p.2) (compile_refused IsShort (texts_of c.args.texts) c.in_err-object.field-0.0 c.in_err-object.ensures.refused)

pub returns-in_err-calls-clause-refused : goal.returns-in_err-calls-clause-refused
returns-in_err-calls-clause-refused c =
    let t = texts_of c.args.texts in
    let p = err_from_is_err_and c.from_residual-in_err-calls.result c.from_residual-in_err-calls.ensures.1 in
    rw (p.1, p.2)
    (script_refused IsShort t (object_in c.in_ok-object.object) c.in_ok-object.ensures.object c.in_ok-object.ensures.alone c.in_err-calls.field-0.0
    (subst (λ (q : Program). IsScriptFault (signatures q) t.asked.processes t.scripts c.in_err-calls.field-0.0) c.checked.ensures.program c.in_err-calls.ensures.fault))

pub returns-in_err-items-clause-refused : goal.returns-in_err-items-clause-refused
returns-in_err-items-clause-refused c =
    let t = texts_of c.args.texts in
    let p = err_from_is_err_and c.from_residual-in_err-items.result c.from_residual-in_err-items.ensures.1 in
    rw (p.1, p.2)
    (schedule_refused IsShort t (object_in c.in_ok-object.object) c.in_ok-object.ensures.object c.in_ok-object.ensures.alone c.in_ok-calls.calls
    (subst (λ (q : Program). IsScript (signatures q) t.asked.processes t.scripts c.in_ok-calls.calls) c.checked.ensures.program c.in_ok-calls.ensures.script)
    c.in_err-items.field-0.0 c.in_err-items.ensures.fault)

pub returns-clause-read : goal.returns-clause-read
returns-clause-read c =
    let t = texts_of c.args.texts in
    let calls = c.in_ok-calls.calls in
    record {
      compiled = c.in_ok-object.ensures.object;
      alone = c.in_ok-object.ensures.alone;
      calls_are = subst (λ (q : Program). IsScript (signatures q) t.asked.processes t.scripts calls) c.checked.ensures.program c.in_ok-calls.ensures.script;
      only_calls = subst (λ (q : Program). (others : List ScriptCall) → IsScript (signatures q) t.asked.processes t.scripts others → others ≡ calls) c.checked.ensures.program c.in_ok-calls.ensures.alone;
      items_are = c.in_ok-items.ensures.schedule;
      only_items = c.in_ok-items.ensures.alone;
    }

pub returns-clause-ready : goal.returns-clause-ready
returns-clause-ready c =
    let t = texts_of c.args.texts in
    let o = object_in c.in_ok-object.object in
    let calls = c.in_ok-calls.calls in
    let n = t.asked.processes in
    let made = c.in_ok-object.ensures.object in
    let script = subst (λ (q : Program). IsScript (signatures q) n t.scripts calls) c.checked.ensures.program c.in_ok-calls.ensures.script in
    let fit = subst (λ (q : Program). All (λ x. CallFits (signatures q) (object_call x)) calls) c.checked.ensures.program c.in_ok-calls.ensures.fit in
    record {
      sound = c.compilations_are_sound.ensures.coded t.asked o made;
      callers = subst (λ (k : ℕ). All (λ x. x.process < k) calls) (sym made.processes) c.in_ok-calls.ensures.processes;
      fit = calls_fit o.program (λ call. c.calls_fit.ensures o.program call) n t.scripts calls script fit;
      turns = subst (λ (k : ℕ). All (λ item. process_of item < k) c.in_ok-items.items.items) (sym made.processes)
          (schedule_below n t.schedule c.in_ok-items.items.items c.in_ok-items.ensures.schedule);
    }
