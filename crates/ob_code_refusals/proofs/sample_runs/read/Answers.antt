-- What was read of the texts is what machines, floors and desks ask for.
use Rattle.std.proofs.Common.{refl}
use Rattle.ob_object_compile.specs.View.{object_in}
use Rattle.ob_object_perform.proofs.Mapped.{callers_below, fit_engine}
use Rattle.ob_code_refusals.proofs.sample_runs.read.Goals as goal

pub returns-clause-callers : goal.returns-clause-callers
returns-clause-callers c =
    let o = object_in c.in_ok-object.object in
    callers_below o c.in_ok-object.calls c.into_calls.result.items c.into_calls.ensures o.processes refl c.in_ok-object.ensures.ready.callers

pub returns-clause-fits : goal.returns-clause-fits
returns-clause-fits c =
    let o = object_in c.in_ok-object.object in
    fit_engine o c.in_ok-object.calls c.into_calls.result.items c.into_calls.ensures c.in_ok-object.ensures.ready.sound o.engine refl c.in_ok-object.ensures.ready.fit
