use Rattle.std.proofs.lemmas.Result.{err_from_is_err_and}
use Rattle.ob_object_compile.specs.Compilation.{IsShort}
use Rattle.ob_object_compile.specs.View.{object_in}
use Rattle.ob_object_perform.proofs.Refusals.{run_refused}
use Rattle.ob_object_perform.specs.Texts.{texts_of}
use Rattle.ob_object_perform.proofs.Behinds.{memory_refused, printed}
use Rattle.ob_object_perform.proofs.stating.state_text.Goals as goal

pub returns-in_err-machine-clause-refused : goal.returns-in_err-machine-clause-refused
returns-in_err-machine-clause-refused c =
    let p = err_from_is_err_and c.from_residual-in_err-machine.result c.from_residual-in_err-machine.ensures.1 in
    rw (p.1, p.2)
    (run_refused IsShort (texts_of c.args.texts) (object_in c.in_ok-object.object) c.in_ok-object.calls c.in_ok-object.items.items c.in_ok-object.ensures.read
    c.in_err-machine.field-0.0 c.in_err-machine.ensures.fault c.in_err-machine.ensures.none)

pub returns-clause-state : goal.returns-clause-state
returns-clause-state c =
    printed (texts_of c.args.texts) (object_in c.in_ok-object.object) c.in_ok-object.calls c.in_ok-object.items.items c.in_ok-object.ensures.read
    c.in_ok-machine.machine.sizes c.in_ok-machine.machine.state c.in_ok-machine.ensures.sizes c.in_ok-machine.ensures.behind _ c.in_ok-write_state.ensures

pub returns-in_err-write_state-clause-refused : goal.returns-in_err-write_state-clause-refused
returns-in_err-write_state-clause-refused c =
    let p = err_from_is_err_and c.from_residual-in_err-write_state.result c.from_residual-in_err-write_state.ensures.1 in
    rw (p.1, p.2) (memory_refused IsShort (texts_of c.args.texts))
