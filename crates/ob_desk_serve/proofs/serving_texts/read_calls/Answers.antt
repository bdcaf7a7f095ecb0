use Rattle.std.proofs.Common.{◌≡◌, ◌<◌, All, List, map, subst, sym}
use Rattle.ob_desk_serve.specs.PromisesOfServeTexts.{calls_texts}
use Rattle.ob_object_compile.specs.Compilation.{IsShort}
use Rattle.ob_object_compile.specs.View.{asked_of, object_in}
use Rattle.ob_object_perform.proofs.Mapped.{callers_below, fit_engine}
use Rattle.ob_object_perform.specs.Performance.{AreReadOf}
use Rattle.ob_text_words.specs.ScriptCalls.{ScriptCall, script_call_of}
use Rattle.std.proofs.Common.{refl}
use Rattle.ob_desk_serve.proofs.serving_texts.read_calls.Goals as goal

pub returns-clause-ready : goal.returns-clause-ready
returns-clause-ready c =
    let r = c.in_ok-object in (
      r.field-0-2.items,
      subst (λ (cs : List ScriptCall). AreReadOf IsShort (calls_texts (asked_of c.args.asked) c.args.scripts.now) (object_in r.object) cs r.field-0-2.items) (sym c.into_calls.ensures) r.ensures.read,
    )

pub returns-clause-callers : goal.returns-clause-callers
returns-clause-callers c =
    let o = object_in c.in_ok-object.object in
    callers_below o c.in_ok-object.calls c.into_calls.result.items c.into_calls.ensures o.processes refl c.in_ok-object.ensures.ready.callers

pub returns-clause-fits : goal.returns-clause-fits
returns-clause-fits c =
    let o = object_in c.in_ok-object.object in
    fit_engine o c.in_ok-object.calls c.into_calls.result.items c.into_calls.ensures c.in_ok-object.ensures.ready.sound o.engine refl c.in_ok-object.ensures.ready.fit
