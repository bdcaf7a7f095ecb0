use Rattle.std.proofs.Common.{◌≡◌, ◌∙◌, ap, string_bytes}
use Rattle.ob_answer_files.specs.Printed.{said}
use Rattle.ob_answer_explained.proofs.Beginnings.{of_whole}
use Rattle.ob_answer_searches.specs.Orders.{parts_text}
use Rattle.ob_answer_searches.proofs.PartLines.{lines_of}
use Rattle.ob_answer_searches.proofs.Refused.{parts_refused_made}
use Rattle.ob_object_search.specs.Parted.{AreLegalOrders}
use Rattle.ob_object_search.specs.View.{orders_in}
use Rattle.ob_answer_searches.proofs.order_answers.answer_parts.Goals as goal

pub returns-in_ok-part_lines-in-Ok : goal.returns-in_ok-part_lines-in-Ok
returns-in_ok-part_lines-in-Ok c whole is =
    let of = of_whole (λ t. AreLegalOrders t c.args.history.now c.args.search.now.budget c.args.by (orders_in c.in-Ok.parts.items)) c.args.module.now whole is
    (λ long. let bad = c.in-Ok.ensures.too_long long in cc) c.in-Ok.ensures.orders in
    let lines : string_bytes c.in_ok-part_lines-in-Ok.field-0 ≡ parts_text (orders_in c.in-Ok.parts.items) =
    c.in_ok-part_lines-in-Ok.ensures ∙ (lines_of c.as_slice.result.now ∙ ap (λ parts. parts_text (orders_in parts)) c.as_slice.ensures.value) in
    said _ (orders_in c.in-Ok.parts.items, of, lines) c.printed.ensures

pub returns-in-Err : goal.returns-in-Err
returns-in-Err c = parts_refused_made c.args.module.now c.args.history.now c.args.search.now.budget c.args.by c.args.search.now.most c.in-Err.fault c.parts_refused.result
    c.parts_refused.ensures.fault c.parts_refused.ensures.memory c.in-Err.ensures.fault c.in-Err.ensures.memory c.in-Err.ensures.none
    (λ long. let e = c.in-Err.ensures.too_long long in cc)
