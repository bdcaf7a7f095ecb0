use Rattle.std.proofs.Common.{◌≡◌, sym, subst}
use Rattle.std.proofs.lemmas.Result.{err_from_is_err_and}
use Rattle.ob_code_correct.specs.Carried.{BegunFit}
use Rattle.ob_code_correct.specs.Compiled.{Fits}
use Rattle.ob_object_compile.specs.Compilation.{IsShort}
use Rattle.ob_object_compile.specs.View.{object_in}
use Rattle.ob_object_perform.proofs.Readings.{performs}
use Rattle.ob_object_perform.proofs.Refusals.{run_refused}
use Rattle.ob_object_perform.specs.Texts.{texts_of}
use Rattle.ob_text_record.specs.Record.{record_of}
use Rattle.ob_typing.specs.ModuleText.{IsModule}
use Rattle.ob_typing.specs.Program.{Program}
use Rattle.ob_object_perform.proofs.performing.performed.Goals as goal

pub returns-in_err-checked-clause-refused : goal.returns-in_err-checked-clause-refused
returns-in_err-checked-clause-refused c =
    let p = err_from_is_err_and c.from_residual-in_err-checked.result c.from_residual-in_err-checked.ensures.1 in
    rw (p.1, p.2)
    (run_refused IsShort (texts_of c.args.texts) (object_in c.in_ok-object.object) c.in_ok-object.calls c.in_ok-object.items.items c.in_ok-object.ensures.read
    c.in_err-checked.field-0.0 c.in_err-checked.ensures.fault c.in_err-checked.ensures.none)

pub returns-clause-alone : goal.returns-clause-alone
returns-clause-alone c =
    subst (λ (q : Program). (other : Program) → IsModule c.args.texts.asked.text.now other → other ≡ q) (sym c.in_ok-checked.ensures.program) c.in_ok-object.ensures.read.alone

pub returns-clause-performance : goal.returns-clause-performance
returns-clause-performance c =
    performs IsShort (texts_of c.args.texts) (object_in c.in_ok-object.object) c.in_ok-object.calls c.in_ok-object.items.items c.in_ok-object.ensures.read
    (record_of c.in_ok-checked.record) c.in_ok-checked.ensures.shows c.in_ok-checked.ensures.meant

pub returns-clause-exports : goal.returns-clause-exports
returns-clause-exports c =
    subst (λ (q : Program). BegunFit (Fits q) c.in_ok-checked.record.history) (sym c.in_ok-checked.ensures.program) c.in_ok-checked.ensures.exports
