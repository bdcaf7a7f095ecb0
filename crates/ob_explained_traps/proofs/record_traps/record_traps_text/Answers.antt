use Rattle.std.proofs.lemmas.Result.{IfOk-weaker, err_from_is_err_and}
use Rattle.ob_explained.specs.Sources.{source_of}
use Rattle.ob_object_calls.proofs.CallTexts.{memory_lawful, record_in}
use Rattle.ob_explained_traps.proofs.TrapsOfRecords.{record_told}
use Rattle.ob_explained_traps.proofs.record_traps.record_traps_text.Goals as goal

pub returns-in_err-checked-clause-lawful : goal.returns-in_err-checked-clause-lawful
returns-in_err-checked-clause-lawful c =
    let p = err_from_is_err_and c.from_residual.result c.from_residual.ensures.1 in
    rw (p.1, p.2) (memory_lawful c.args.object.text.now c.args.record.now c.in_err-checked.field-0.0 c.in_err-checked.ensures.none c.in_err-checked.ensures.memory)

pub returns-clause-told : goal.returns-clause-told
returns-clause-told c =
    IfOk-weaker c.told_of.result _ _
    (λ text found. record_told (source_of c.args.object) c.args.record.now _ _ _ c.in_ok-checked.ensures.program c.in_ok-checked.ensures.one_tree found)
    c.told_of.ensures.told

pub returns-clause-lawful : goal.returns-clause-lawful
returns-clause-lawful c =
    λ r. c.told_of.ensures.lawful
    (record_in c.args.object.text.now c.args.record.now _ c.in_ok-checked.ensures.program c.in_ok-checked.ensures.alone r)
