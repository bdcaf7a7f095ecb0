use Rattle.std.proofs.Common.{◌≡◌, codes, rules, string_bytes}
use Rattle.ob_answer_explained.proofs.Beginnings.{of_whole}
use Rattle.ob_answer.proofs.Made.{verify_refused_made}
use Rattle.ob_object_calls.specs.Verified.{IsVerified}
use Rattle.ob_answer_files.specs.Printed.{said}
use Rattle.ob_answer.proofs.text_answers.answer_verify.Goals as goal

pub returns-in_ok-from_str-in-Ok : goal.returns-in_ok-from_str-in-Ok
returns-in_ok-from_str-in-Ok c whole is =
    let of = of_whole (λ t. IsVerified t c.args.record.now) c.args.module.now whole is (λ long. let bad = c.in-Ok.ensures.too_long long in cc) c.in-Ok.ensures.verified in
    let text : string_bytes c.in_ok-from_str-in-Ok.field-0 ≡ codes "ok\n" = search rules in
    said (string_bytes c.in_ok-from_str-in-Ok.field-0) (of, text) c.printed.ensures

pub returns-in-Err : goal.returns-in-Err
returns-in-Err c = verify_refused_made c.args.module.now c.args.record.now c.in-Err.fault c.verify_refused.result c.verify_refused.ensures.fault c.verify_refused.ensures.memory
    c.in-Err.ensures.fault c.in-Err.ensures.memory c.in-Err.ensures.none (λ long. let e = c.in-Err.ensures.too_long long in cc)
