use Rattle.std.proofs.Common.{string_bytes}
use Rattle.ob_answer_explained.proofs.Beginnings.{of_whole}
use Rattle.ob_answer.proofs.Made.{draw_record_refused_made}
use Rattle.ob_object_draw.specs.RecordPictures.{IsRecordPicture}
use Rattle.ob_answer_files.specs.Printed.{said}
use Rattle.ob_answer.proofs.text_answers.answer_draw_record.Goals as goal

pub returns-in-Ok : goal.returns-in-Ok
returns-in-Ok c whole is =
    let text = string_bytes c.in-Ok.picture in
    said text
    (of_whole (λ t. IsRecordPicture t c.args.record.now c.args.calls text) c.args.module.now whole is (λ long. let bad = c.in-Ok.ensures.too_long long in cc) c.in-Ok.ensures.picture)
    c.printed.ensures

pub returns-in-Err : goal.returns-in-Err
returns-in-Err c = draw_record_refused_made c.args.calls c.args.module.now c.args.record.now c.in-Err.fault
    c.draw_record_refused.result c.draw_record_refused.ensures.fault c.draw_record_refused.ensures.memory
    c.in-Err.ensures.fault c.in-Err.ensures.memory c.in-Err.ensures.none (λ long. let e = c.in-Err.ensures.too_long long in cc)
