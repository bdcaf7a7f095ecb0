-- By the rows of the first events.
use Rattle.std.proofs.Common.{sym, subst, List, map, take, arith}
use Rattle.std.proofs.lemmas.List.{length-map, take-map}
use Rattle.std.specs.Prelude.{IfOk}
use Rattle.ob_interface.specs.Call.{ObjectCall, Reply}
use Rattle.wf_history.specs.History.{Event, IsHistory}
use Rattle.wf_history.specs.View.{event_of}
use Rattle.wf_lookup.specs.Beginnings.{AreOfProcesses}
use Rattle.wf_order.specs.Search.{IsAnswer}
use Rattle.wf_order.proofs.Beginnings.{taken_few}
use Rattle.wf_lookup.proofs.Turns.{take_whole}
use Rattle.wf_order.proofs.find.front_answer.Goals as goal

pub rows_of-requires-clause-history : goal.rows_of-requires-clause-history
rows_of-requires-clause-history g c =
    let all = map event_of c.args.question.now.events.now in
    let same = sym (take-map event_of c.args.count c.args.question.now.events.now) in
    subst (λ (es : List (Event ObjectCall Reply)). IsHistory es) (sym same) (take_whole c.args.count all c.requires.history)

pub rows_of-requires-clause-few : goal.rows_of-requires-clause-few
rows_of-requires-clause-few g c =
    let all = map event_of c.args.question.now.events.now in
    let same = sym (take-map event_of c.args.count c.args.question.now.events.now) in
    subst (λ (es : List (Event ObjectCall Reply)). AreOfProcesses c.args.question.now.processes es) (sym same)
    (taken_few (g.O.Object.effect c.args.question.now.object.now) all c.requires.history c.args.question.now.processes c.requires.few (g.O.Object.opening c.args.question.now.object.now) c.args.count)

pub search-requires-clause-rows : goal.search-requires-clause-rows
search-requires-clause-rows g c = c.rows-rows.ensures.rows (map event_of (take c.args.count c.args.question.now.events.now)) c.args.question.now.processes c.in_ok-kept.ensures

pub search-requires-clause-calls : goal.search-requires-clause-calls
search-requires-clause-calls g c =
    let events = take c.args.count c.args.question.now.events.now in
    let few = c.rows-rows.ensures.few (map event_of events) c.args.question.now.processes c.in_ok-kept.ensures in
    let size = length-map events event_of in
    omega (arith, few, size)

pub returns : goal.returns
returns g c =
    let effect = g.O.Object.effect c.args.question.now.object.now in
    let opening = g.O.Object.opening c.args.question.now.object.now in
    let all = map event_of c.args.question.now.events.now in
    let same = sym (take-map event_of c.args.count c.args.question.now.events.now) in
    subst (λ (es : List (Event ObjectCall Reply)). IfOk c.search.result (IsAnswer effect opening es c.args.question.now.processes c.args.question.now.most)) same c.search.ensures.answer
