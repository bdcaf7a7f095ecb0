use Rattle.std.proofs.lemmas.Result.{err_from_is_err_and}
use Rattle.ob_object_compile.specs.Compilation.{IsShort}
use Rattle.ob_object_compile.specs.View.{object_in}
use Rattle.ob_object_perform.proofs.Refusals.{run_refused}
use Rattle.ob_object_perform.specs.Texts.{texts_of}
use Rattle.ob_text_record.specs.Record.{record_of}
use Rattle.ob_object_perform.proofs.Spending.{with_steps}
use Rattle.ob_object_perform.proofs.spent_printing.with_steps.Goals as goal

pub returns-in_err-run_with_steps-clause-refused : goal.returns-in_err-run_with_steps-clause-refused
returns-in_err-run_with_steps-clause-refused c =
    let p = err_from_is_err_and c.from_residual-in_err-run_with_steps.result c.from_residual-in_err-run_with_steps.ensures.1 in
    rw (p.1, p.2)
    (run_refused IsShort (texts_of c.args.texts) (object_in c.in_ok-object.object) c.in_ok-object.calls c.in_ok-object.items.items c.in_ok-object.ensures.read
    c.in_err-run_with_steps.field-0.0 c.in_err-run_with_steps.ensures.fault c.in_err-run_with_steps.ensures.none)

pub returns-clause-run : goal.returns-clause-run
returns-clause-run c =
    with_steps (texts_of c.args.texts) (object_in c.in_ok-object.object) c.in_ok-object.calls c.in_ok-object.items.items c.in_ok-object.ensures.read
    _ (record_of c.in_ok-run_with_steps.field-0.1) _ c.in_ok-run_with_steps.ensures.shows c.in_ok-run_with_steps.ensures.meant c.in_ok-run_with_steps.ensures.program
    c.in_ok-run_with_steps.ensures.ended
