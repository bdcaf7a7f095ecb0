use Rattle.std.proofs.Common.{◌∙◌, arith}
use Rattle.ob_picture_chart.proofs.Numbers.{number_within}
use Rattle.ob_picture_chart.specs.Same.{is_same}
use Rattle.wf_history.specs.declared.event.CallId.{CallId}
use Rattle.ob_picture_chart.proofs.order.Order.place.Goals as goal

pub returns-clause-place : goal.returns-clause-place
returns-clause-place c = c.get.ensures ∙ c.args.self.now.noted c.args.id

pub returns-clause-within : goal.returns-clause-within
returns-clause-within c =
    let order = c.args.self.now in
    let place = c.get.ensures ∙ order.noted c.args.id in
    let most = number_within (λ (other : CallId). is_same other c.args.id) order.ids.now in
    omega (arith, place, most)
