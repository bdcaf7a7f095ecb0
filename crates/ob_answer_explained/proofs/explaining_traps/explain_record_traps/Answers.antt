use Rattle.std.proofs.lemmas.Result.{IfOk-weaker}
use Rattle.ob_answer_explained.specs.Explains.{TellsRecordTraps, record_traps_told}
use Rattle.ob_answer_explained.proofs.Beginnings.{of_whole}
use Rattle.ob_answer_explained.proofs.Shown.{record_untold_made}
use Rattle.ob_object_calls.specs.Verified.{IsVerified}
use Rattle.ob_answer_explained.proofs.explaining_traps.explain_record_traps.Goals as goal

pub returns-in-Ok : goal.returns-in-Ok
returns-in-Ok c =
    IfOk-weaker c.record_traps.result _ _
    (λ a told whole is.
    record_traps_told
    (of_whole (λ t. IsVerified t c.args.record.now) c.args.module.now whole is (λ long. let bad = c.in-Ok.ensures.too_long long in cc) c.in-Ok.ensures.verified)
    (of_whole (λ t. TellsRecordTraps c.args.module_name.now t c.args.record.now a) c.args.module.now whole is (λ long. let bad = c.in-Ok.ensures.too_long long in cc) told))
    c.record_traps.ensures

pub returns-in-Err : goal.returns-in-Err
returns-in-Err c = record_untold_made c.args.module_name.now c.args.module.now c.args.record_name.now c.args.record.now c.in-Err.fault
    c.record_wrong.result c.record_wrong.ensures.fault c.record_wrong.ensures.memory
    c.in-Err.ensures.fault c.in-Err.ensures.memory c.in-Err.ensures.none (λ long. let e = c.in-Err.ensures.too_long long in cc)
