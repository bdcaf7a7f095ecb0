-- The first events, gone on with from what was found of all.
use Rattle.std.proofs.Common.{sym, ap, ◌∙◌, subst, List, ◌≤◌, length, map, take, false, arith}
use Rattle.std.proofs.lemmas.List.{length-map, take-map, take_at}
use Rattle.ob_interface.specs.Call.{ObjectCall, Reply}
use Rattle.wf_history.specs.History.{Event}
use Rattle.wf_history.specs.View.{event_of}
use Rattle.wf_order.specs.Fronts.{IsFound}
use Rattle.wf_order.specs.Rows.{AreRows}
use Rattle.wf_order.specs.Search.{all_found, IsLed, IsSearch}
use Rattle.wf_order.specs.Steps.{start_at}
use Rattle.wf_order.proofs.Fronts.{search_of_front, sized}
use Rattle.wf_order.proofs.find.front_by_found.Goals as goal

pub go_on-requires-clause-rows : goal.go_on-requires-clause-rows
go_on-requires-clause-rows g c =
    let events = c.args.question.now.events.now in
    let size = length-map events event_of in
    let few = c.requires.within in
    subst (λ (es : List (Event ObjectCall Reply)). AreRows es c.args.question.now.processes c.first-rows.result) (take-map event_of c.args.count events)
    (c.first-rows.ensures (map event_of events) c.args.question.now.processes c.requires.rows (omega (arith, size, few)))

pub go_on-requires-clause-search : goal.go_on-requires-clause-search
go_on-requires-clause-search g c =
    let effect = g.O.Object.effect c.args.question.now.object.now in
    let opening = g.O.Object.opening c.args.question.now.object.now in
    let processes = c.args.question.now.processes in
    let rows = c.args.question.now.rows.now in
    let events = c.args.question.now.events.now in
    let history = map event_of events in
    let keys = c.args.seen.now.keys in
    let start = start_at processes opening in
    let found = all_found g.O.Object.meaning c.args.seen.now in
    let same = sym (take-map event_of c.args.count events) in
    let size = length-map events event_of in
    let few = c.requires.within in
    let inside : c.args.count ≤ length history = omega (arith, size, few) in
    let far = c.requires.farthest in
    let framed = c.in_ok-stack.ensures history processes c.requires.rows (sized g.O.Object.meaning effect history processes opening keys c.requires.search) in
    subst (λ (es : List (Event ObjectCall Reply)). IsSearch effect es processes (IsLed effect es false start) start found c.in_ok-stack.stack.items) (sym same)
    (search_of_front g.O.Object.meaning effect history processes opening keys c.requires.search far.0 far.2 rows c.requires.rows c.args.count far.1 inside c.in_ok-stack.stack.items framed)

pub returns-clause-front : goal.returns-clause-front
returns-clause-front g c =
    let effect = g.O.Object.effect c.args.question.now.object.now in
    let opening = g.O.Object.opening c.args.question.now.object.now in
    let same = sym (take-map event_of c.args.count c.args.question.now.events.now) in
    subst (λ (es : List (Event ObjectCall Reply)). IsFound effect opening es c.in_ok-front.front) same c.in_ok-front.ensures.found

pub returns-clause-same : goal.returns-clause-same
returns-clause-same g c =
    let keys = c.args.seen.now.keys in
    let grown = c.in_ok-front.ensures.grown in
    let size = c.len-size.ensures.len in
    c.truncate.ensures.keys ∙ ap (take c.len-size.result) grown.1 ∙ take_at keys grown.0 c.len-size.result (sym size)
