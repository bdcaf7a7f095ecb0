use Rattle.std.proofs.Common.{◌≡◌, ◌∙◌, ap, string_bytes}
use Rattle.ob_answer_files.specs.Printed.{said}
use Rattle.ob_answer_explained.proofs.Beginnings.{of_whole}
use Rattle.ob_answer_searches.proofs.Refused.{search_refused_made}
use Rattle.ob_object_search.specs.Searched.{IsLegalOrder}
use Rattle.ob_text_record.specs.RecordText.{order_text}
use Rattle.ob_answer_searches.proofs.order_answers.answer_line.Goals as goal

pub returns-in_ok-order_line-in-Ok : goal.returns-in_ok-order_line-in-Ok
returns-in_ok-order_line-in-Ok c whole is =
    let of = of_whole (λ t. IsLegalOrder t c.args.history.now c.args.search.now.budget c.in-Ok.order.items) c.args.module.now whole is
    (λ long. let bad = c.in-Ok.ensures.too_long long in cc) c.in-Ok.ensures.order in
    let line : string_bytes c.in_ok-order_line-in-Ok.field-0 ≡ order_text c.in-Ok.order.items =
    c.in_ok-order_line-in-Ok.ensures ∙ ap order_text c.as_slice.ensures.value in
    said _ (c.in-Ok.order.items, of, line) c.printed.ensures

pub returns-in-Err : goal.returns-in-Err
returns-in-Err c = search_refused_made c.args.module.now c.args.history.now c.args.search.now.budget c.args.search.now.most c.in-Err.fault c.search_refused.result
    c.search_refused.ensures.fault c.search_refused.ensures.memory c.in-Err.ensures.fault c.in-Err.ensures.memory c.in-Err.ensures.none c.in-Err.ensures.decided
    (λ long. let e = c.in-Err.ensures.too_long long in cc)
