-- By the search of the whole, and by halving.
use Rattle.std.proofs.Common.{ap, ℕ, map, arith}
use Rattle.std.proofs.lemmas.List.{length-map}
use Rattle.std.proofs.lemmas.Option.{MatchOption-at_none, MatchOption-at_some}
use Rattle.wf_history.specs.History.{End}
use Rattle.wf_history.specs.View.{event_of}
use Rattle.wf_history.proofs.Positions.{one_item}
use Rattle.wf_order.specs.Verdict.{enough}
use Rattle.wf_order.proofs.Deciding.{none_of, many_of}
use Rattle.wf_order.proofs.Places.{same_end}
use Rattle.wf_order.proofs.find.verdict_of.Goals as goal

pub last_legal-requires-clause-none : goal.last_legal-requires-clause-none
last_legal-requires-clause-none g c =
    let effect = g.O.Object.effect c.args.question.now.object.now in
    let opening = g.O.Object.opening c.args.question.now.object.now in
    let history = map event_of c.args.question.now.events.now in
    none_of effect history opening c.args.question.now.processes c.args.question.now.most c.in_ok-order.field-0 c.in_ok-order.ensures.answer c.in-NoOrder.is

pub returns-in-TooMany-clause-verdict : goal.returns-in-TooMany-clause-verdict
returns-in-TooMany-clause-verdict g c =
    let effect = g.O.Object.effect c.args.question.now.object.now in
    let opening = g.O.Object.opening c.args.question.now.object.now in
    let history = map event_of c.args.question.now.events.now in
    let many = many_of effect history opening c.args.question.now.processes c.args.question.now.most c.in_ok-order.field-0 c.in_ok-order.ensures.answer c.in-TooMany.is in
    (c.args.question.now.processes, many.0)

pub returns-in-TooMany-clause-decided : goal.returns-in-TooMany-clause-decided
returns-in-TooMany-clause-decided g c = λ le e.
    let effect = g.O.Object.effect c.args.question.now.object.now in
    let opening = g.O.Object.opening c.args.question.now.object.now in
    let history = map event_of c.args.question.now.events.now in
    let size = length-map c.args.question.now.events.now event_of in
    let many = many_of effect history opening c.args.question.now.processes c.args.question.now.most c.in_ok-order.field-0 c.in_ok-order.ensures.answer c.in-TooMany.is in
    let less = many.1 in
    let cost = ap (λ (n : ℕ). enough c.args.question.now.processes n) size in
    omega (arith, le, less, cost)

pub returns-in-Some-clause-verdict : goal.returns-in-Some-clause-verdict
returns-in-Some-clause-verdict g c =
    let effect = g.O.Object.effect c.args.question.now.object.now in
    let opening = g.O.Object.opening c.args.question.now.object.now in
    let history = map event_of c.args.question.now.events.now in
    let last = MatchOption-at_some _ _ c.in-Some.place c.in-Some.is c.in_ok-place-in-NoOrder.ensures in
    let end = c.end_at.ensures in (
      last,
      same_end history last.id c.end_at.result last.reply end.0 (one_item history c.in-Some.place (End last.id last.reply) (End c.end_at.result end.0) last.end end.1),
      none_of effect history opening c.args.question.now.processes c.args.question.now.most c.in_ok-order.field-0 c.in_ok-order.ensures.answer c.in-NoOrder.is,
    )

pub returns-clause-decided : goal.returns-clause-decided
returns-clause-decided g c = λ le e.
    let size = length-map c.args.question.now.events.now event_of in
    let many = MatchOption-at_none _ _ c.in-None.is c.in_ok-place-in-NoOrder.ensures in
    let less = many.1 in
    let cost = ap (λ (n : ℕ). enough c.args.question.now.processes n) size in
    omega (arith, le, less, cost)
