use Rattle.std.proofs.Common.{◌∙◌, ◌<◌, All, List, ℕ, ap, map, subst, sym}
use Rattle.std.proofs.lemmas.Result.{err_from_is_err_and}
use Rattle.ob_typing.specs.Program.{Program}
use Rattle.ob_code_correct.specs.Compiled.{IsFitting}
use Rattle.ob_object_compile.specs.View.{asked_of, object_in}
use Rattle.ob_text_record.specs.Record.{record_of}
use Rattle.ob_text_record.specs.RecordText.{record_text}
use Rattle.ob_desk_serve.specs.ServeFaults.{IsServeFault}
use Rattle.ob_desk_serve.specs.PromisesOfServe.{AreAnswersTold, AreTurnsLet, HaveEnded, IsRecordOf}
use Rattle.ob_desk_serve.proofs.ReadCalls as Read
use Rattle.ob_desk_serve.proofs.TextFaults.{memory_refused, serve_refused, texts_refused}
use Rattle.ob_text_words.specs.ScriptCalls.{object_call, script_call_of}
use Rattle.ob_text_words.specs.declared.script_call.ScriptCall.{ScriptCall}
use Rattle.ob_desk_serve.proofs.serving_texts.serve_text_with.Goals as goal

pub serve-requires-clause-some : goal.serve-requires-clause-some
serve-requires-clause-some g c κs within =
    Read.some (asked_of c.args.asked) c.args.scripts.now (object_in c.in_ok-object.object) (map script_call_of c.in_ok-object.calls.items) c.in_ok-object.ensures.ready

pub serve-requires-clause-few : goal.serve-requires-clause-few
serve-requires-clause-few g c κs within =
    Read.few (asked_of c.args.asked) c.args.scripts.now (object_in c.in_ok-object.object) (map script_call_of c.in_ok-object.calls.items) c.in_ok-object.ensures.ready

pub serve-requires-clause-callers : goal.serve-requires-clause-callers
serve-requires-clause-callers g c κs within =
    let o = object_in c.in_ok-object.object in
    subst (λ (xs : List ScriptCall). All (λ x. x.process < o.processes) xs) (sym c.as_slice.ensures.value) c.in_ok-object.ensures.callers

pub serve-requires-clause-fits : goal.serve-requires-clause-fits
serve-requires-clause-fits g c κs within =
    let o = object_in c.in_ok-object.object in
    subst (λ (xs : List ScriptCall). All (λ x. IsFitting o.engine.exports (object_call (script_call_of x))) xs) (sym c.as_slice.ensures.value) c.in_ok-object.ensures.fits

pub returns-in_err-write_record-clause-refused : goal.returns-in_err-write_record-clause-refused
returns-in_err-write_record-clause-refused g c =
    let p = err_from_is_err_and c.from_residual-in_err-write_record.result c.from_residual-in_err-write_record.ensures.1 in
    rw (p.1, p.2) (memory_refused (g.G.Gate.passes c.args.gate.now) (g.G.Gate.refuses c.args.gate.now) (g.G.Gate.hears c.args.gate.now) c.args.limit (asked_of c.args.asked) c.args.scripts.now)

pub returns-clause-served : goal.returns-clause-served
returns-clause-served g c =
    let ready = c.in_ok-object.ensures.ready in
    let o = object_in c.in_ok-object.object in
    let calls = map script_call_of c.in_ok-object.calls.items in
    let shown = record_of c.in_ok-record.record in
    let given = c.as_slice.ensures.value in
    record {
      served = record {
        object = o;
        calls = calls;
        read = ready;
        shown = shown;
        is_record = subst (λ (xs : List ScriptCall). IsRecordOf o (map script_call_of xs) shown) given c.in_ok-record.ensures.record;
        events = c.count_events.ensures;
        ended = subst (λ (k : ℕ). HaveEnded k calls shown.history) ready.1.compiled.processes
            (subst (λ (xs : List ScriptCall). HaveEnded o.processes (map script_call_of xs) shown.history) given c.in_ok-record.ensures.ended);
        printed = c.in_ok-write_record.ensures ∙ ap (λ (p : Program). record_text p shown) c.checked.ensures.program;
      };
      passed = subst (λ (k : ℕ). AreTurnsLet (g.G.Gate.passes c.args.gate.now) c.args.limit k shown.schedule) ready.1.compiled.processes c.in_ok-record.ensures.passed;
      told = subst (λ (k : ℕ). AreAnswersTold (g.G.Gate.hears c.args.gate.now) k shown.history) ready.1.compiled.processes c.in_ok-record.ensures.told;
    }

pub returns-in_err-object-clause-refused : goal.returns-in_err-object-clause-refused
returns-in_err-object-clause-refused g c =
    let p = err_from_is_err_and c.from_residual.result c.from_residual.ensures.1 in
    rw (p.1, p.2) (texts_refused (g.G.Gate.passes c.args.gate.now) (g.G.Gate.refuses c.args.gate.now) (g.G.Gate.hears c.args.gate.now) c.args.limit (asked_of c.args.asked) c.args.scripts.now c.in_err-object.field-0.0 c.in_err-object.ensures.refused)

pub returns-in_err-record-clause-refused : goal.returns-in_err-record-clause-refused
returns-in_err-record-clause-refused g c =
    let p = err_from_is_err_and c.from_residual-in_err-record.result c.from_residual-in_err-record.ensures.1 in
    let o = object_in c.in_ok-object.object in
    let passes = g.G.Gate.passes c.args.gate.now in
    let refuses = g.G.Gate.refuses c.args.gate.now in
    let hears = g.G.Gate.hears c.args.gate.now in
    let e = c.in_err-record.field-0.0 in
    rw (p.1, p.2)
    (serve_refused passes refuses hears c.args.limit (asked_of c.args.asked) c.args.scripts.now o (map script_call_of c.in_ok-object.calls.items) c.in_ok-object.ensures.ready e
    (subst (λ (xs : List ScriptCall). IsServeFault passes refuses hears c.args.limit o (map script_call_of xs) e) c.as_slice.ensures.value c.in_err-record.ensures.fault))
