-- What stands in a row, as far as the events go.
use Rattle.std.proofs.Common.{◌∙◌, sym, arith}
use Rattle.std.proofs.lemmas.Bool.{ltb-true}
use Rattle.wf_order.proofs.Rowing.{reads_item, reads_late, reads_none, row_read}
use Rattle.wf_order.proofs.kept_rows.Rows.ended_at.Goals as goal

pub returns-in_err-ended : goal.returns-in_err-ended
returns-in_err-ended c =
    let rows = c.args.self.now in
    let row = row_read (λ row. row.items) rows.ended.now c.args.process c.in_ok-get.field-0.now (ltb-true _ _ (sym c.in_ok-get.ensures.lookup.0)) c.in_ok-get.ensures.lookup.1 ∙ sym c.deref.ensures.value in
    c.from_residual-in_err-ended.ensures ∙ sym (reads_none (λ x. x.place) rows.events (λ row. row.items) rows.ended.now c.args.process c.args.place c.deref.result.now row c.in_err-ended.ensures.lookup.3)

pub returns-then-ended-self : goal.returns-then-ended-self
returns-then-ended-self c =
    let rows = c.args.self.now in
    let row = row_read (λ row. row.items) rows.ended.now c.args.process c.in_ok-get.field-0.now (ltb-true _ _ (sym c.in_ok-get.ensures.lookup.0)) c.in_ok-get.ensures.lookup.1 ∙ sym c.deref.ensures.value in
    let late = c.if-ended-self.true in
    sym (reads_late (λ x. x.place) rows.events (λ row. row.items) rows.ended.now c.args.process c.args.place c.deref.result.now row c.in_ok-ended.field-0.now (ltb-true _ _ (sym c.in_ok-ended.ensures.lookup.0)) c.in_ok-ended.ensures.lookup.1
    (omega (arith, late)))

pub returns : goal.returns
returns c =
    let rows = c.args.self.now in
    let row = row_read (λ row. row.items) rows.ended.now c.args.process c.in_ok-get.field-0.now (ltb-true _ _ (sym c.in_ok-get.ensures.lookup.0)) c.in_ok-get.ensures.lookup.1 ∙ sym c.deref.ensures.value in
    let early = c.if-ended-self.false in
    sym (reads_item (λ x. x.place) rows.events (λ row. row.items) rows.ended.now c.args.process c.args.place c.deref.result.now row rows.ended_rise c.in_ok-ended.field-0.now (ltb-true _ _ (sym c.in_ok-ended.ensures.lookup.0))
    c.in_ok-ended.ensures.lookup.1 (omega (arith, early)))
