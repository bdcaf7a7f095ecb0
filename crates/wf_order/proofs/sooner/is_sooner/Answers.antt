-- What the rows hold of the two calls, and the limit.
use Rattle.std.proofs.Common.{sym, ◌∙◌, ◌<◌, length, arith}
use Rattle.wf_order.proofs.Replacing.{sooner_is, same_replies_are, alike_are, first_of_two}
use Rattle.wf_order.proofs.sooner.is_sooner.Goals as goal

pub returns : goal.returns
returns c = λ history counts p k are limit at within next t.
    let rows = c.args.rows.now in
    let a = c.args.first in
    let begun_is = sym c.begun_at.ensures.item ∙ c.in-Some-begun_at.is in
    let end_is = sym c.ended_at.ensures ∙ c.in-Some.is in
    let sooner : c.in-Some.sooner_end.place < c.args.end.place = let f = c.if-sooner_end-end.false in omega (arith, f) in
    sooner_is history (length counts) rows are counts c.args.limit a.process a.place p k c.in-Some-begun_at.sooner_begun limit begun_is
    (let f = c.if-sooner_begun-limit.false in omega (arith, f))
    (same_replies_are history (length counts) rows are a.process a.place p k c.in-Some.sooner_end c.args.end end_is at.1 (c.are_same_replies.ensures c.if-not-are_same_replies.false))
    (alike_are history (length counts) rows are a.process a.place p k c.in-Some-begun_at.sooner_begun c.args.begun begun_is at.0 (c.is_same_call.ensures t)
    (first_of_two history (length counts) rows are a.process a.place p k c.in-Some.sooner_end c.args.end end_is at.1 sooner))
    within next
