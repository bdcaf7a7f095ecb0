-- Nothing is left, or one try.
use Rattle.std.proofs.Common.{arith}
use Rattle.wf_order.specs.Search.{all_found, IsLed}
use Rattle.wf_order.proofs.Arriving.{after_pop}
use Rattle.wf_order.proofs.Searching.{led_on, past_answered}
use Rattle.wf_order.proofs.search.advance.Goals as goal

pub returns-then-frame-task-clause-search : goal.returns-then-frame-task-clause-search
returns-then-frame-task-clause-search g c = λ history processes exact start are h.
    let effect = g.O.Object.effect c.args.task.now.object.now in
    let found = all_found g.O.Object.meaning c.args.seen.now in
    let frame = c.args.frame in
    let events = are.events in
    let past = c.if-frame-task.true in
    after_pop effect history processes c.args.task.now.rows.now are (IsLed effect history exact start) (led_on effect history exact start) start found c.args.stack.now.items frame h
    (λ x d id there s begins. past_answered effect history processes (IsLed effect history exact start) (led_on effect history exact start) start found frame (omega (arith, events, past)) x d id begins)

pub advance_from-requires-clause-left : goal.advance_from-requires-clause-left
advance_from-requires-clause-left g c = let f = c.if-frame-task.false in omega (arith, f)
