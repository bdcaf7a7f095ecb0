use Rattle.std.proofs.Common.{string_bytes}
use Rattle.ob_answer_explained.proofs.Beginnings.{of_whole}
use Rattle.ob_answer_files.specs.Printed.{said}
use Rattle.ob_answer_searches.proofs.Drawings.{picture_refused_made}
use Rattle.ob_object_draw.specs.HistoryPictures.{IsHistoryPicture}
use Rattle.ob_answer_searches.proofs.history_drawing.answer_drawn.Goals as goal

pub returns-in-Ok : goal.returns-in-Ok
returns-in-Ok c whole is =
    let of = of_whole (λ t. IsHistoryPicture t c.args.history.now c.args.search.now.budget c.args.calls (string_bytes c.in-Ok.picture)) c.args.module.now whole is
    (λ long. let bad = c.in-Ok.ensures.too_long long in cc) c.in-Ok.ensures.picture in
    said _ of c.printed.ensures

pub returns-in-Err : goal.returns-in-Err
returns-in-Err c = picture_refused_made c.args.module.now c.args.history.now c.args.search.now.budget c.args.search.now.most c.args.calls c.in-Err.fault c.picture_refused.result
    c.picture_refused.ensures.fault c.picture_refused.ensures.memory c.in-Err.ensures.fault c.in-Err.ensures.memory c.in-Err.ensures.none
    (λ long. let e = c.in-Err.ensures.too_long long in cc)
