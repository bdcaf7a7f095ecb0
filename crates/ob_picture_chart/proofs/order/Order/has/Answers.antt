use Rattle.std.proofs.Common.{◌∙◌, ap, sym, not, ℕ}
use Rattle.std.specs.Prelude.{nat_eq}
use Rattle.ob_picture_chart.proofs.Numbers.{any_number}
use Rattle.ob_picture_chart.specs.Same.{is_same}
use Rattle.wf_history.specs.declared.event.CallId.{CallId}
use Rattle.ob_picture_chart.proofs.order.Order.has.Goals as goal

pub returns : goal.returns
returns c =
    let order = c.args.self.now in
    ap (λ (n : ℕ). not (nat_eq n 0)) (c.get.ensures ∙ order.noted c.args.id) ∙ sym (any_number (λ (other : CallId). is_same other c.args.id) order.ids.now)
