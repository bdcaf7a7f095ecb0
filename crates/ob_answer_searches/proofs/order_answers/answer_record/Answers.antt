use Rattle.std.proofs.Common.{string_bytes}
use Rattle.ob_answer_files.specs.Printed.{said}
use Rattle.ob_answer_explained.proofs.Beginnings.{of_whole}
use Rattle.ob_answer_searches.proofs.Refused.{record_refused_made}
use Rattle.ob_object_search.specs.SearchRecords.{IsRecordFound}
use Rattle.ob_answer_searches.proofs.order_answers.answer_record.Goals as goal

pub returns-in-Ok : goal.returns-in-Ok
returns-in-Ok c whole is =
    let of = of_whole (λ t. IsRecordFound t c.args.history.now c.args.search.now.budget (string_bytes c.in-Ok.text)) c.args.module.now whole is
    (λ long. let bad = c.in-Ok.ensures.too_long long in cc) c.in-Ok.ensures.written in
    said _ of c.printed.ensures

pub returns-in-Err : goal.returns-in-Err
returns-in-Err c = record_refused_made c.args.module.now c.args.history.now c.args.search.now.budget c.args.search.now.most c.in-Err.fault c.recording_refused.result
    c.recording_refused.ensures.fault c.recording_refused.ensures.memory c.in-Err.ensures.fault c.in-Err.ensures.memory c.in-Err.ensures.lawful c.in-Err.ensures.decided
    (λ long. let e = c.in-Err.ensures.too_long long in cc)
