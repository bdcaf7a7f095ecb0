-- One try, by what `chosen` and `arrive` say.
use Rattle.std.proofs.Common.{sym, ap, refl, ◌∙◌, subst, ℕ, ◌<◌, List, length, map, set, option_map, arith}
use Rattle.std.proofs.lemmas.Option.{MatchOption-at_none, MatchOption-at_some, slice_get-map}
use Rattle.wf_history.proofs.Positions.{contains_at, one_item}
use Rattle.wf_history.specs.declared.event.CallId.{CallId}
use Rattle.wf_history.specs.View.{event_of}
use Rattle.wf_order.specs.declared.search.Frame.{Frame}
use Rattle.wf_order.specs.Rows.{AreRows}
use Rattle.wf_order.specs.Rules.{IsAnswered}
use Rattle.wf_order.specs.Search.{found_in, all_found, AreAllAnswered, IsChoice, IsLed, IsPassed}
use Rattle.wf_order.specs.Steps.{Configuration, IsLimit, IsOneMore, IsStep}
use Rattle.wf_order.proofs.Arriving.{chosen_tried, top_at, step_rows, after_pop, concluded, stood_for}
use Rattle.wf_order.proofs.Limits.{limit_moved}
use Rattle.wf_order.proofs.Searching.{led_on, passes_size}
use Rattle.wf_order.proofs.Stepping.{some_at}
use Rattle.wf_order.proofs.search.advance_from.Goals as goal

pub returns-in_default-2-clause-search : goal.returns-in_default-2-clause-search
returns-in_default-2-clause-search g c = λ history processes exact start are h.
    let view = found_in g.O.Object.meaning in
    let effect = g.O.Object.effect c.args.task.now.object.now in
    let rows = c.args.task.now.rows.now in
    let found = all_found g.O.Object.meaning c.args.seen.now in
    let frame = c.args.frame in
    let here = view c.index.result.now in
    let at = slice_get-map view c.args.seen.now.keys frame.place ∙ ap (option_map view) c.index.ensures in
    let is_at = top_at effect history processes rows are (IsLed effect history exact start) (led_on effect history exact start) start found c.args.stack.now.items frame h here at (let events = are.events in let early = c.requires.left in omega (arith, events, early)) in
    let all = MatchOption-at_none (AreAllAnswered effect history found here frame.next)
    (λ a. IsChoice effect history rows found here frame.next frame.limit a.next a.process (g.O.Object.meaning a.state)) c.in_default-2.is (c.in_ok-attempt.ensures.chosen history found is_at) in
    after_pop effect history processes rows are (IsLed effect history exact start) (led_on effect history exact start) start found c.args.stack.now.items frame h
    (λ x d id there s begins.
    let same = one_item found frame.place x here there at in
    subst (λ (y : Configuration g.O.Object.Meaning). IsAnswered effect history found y id d) (sym same) (all id d (subst (λ (y : Configuration g.O.Object.Meaning). IsStep effect history y id d) same s) begins))

pub returns-clause-search : goal.returns-clause-search
returns-clause-search g c = λ history processes exact start are h.
    let view = found_in g.O.Object.meaning in
    let effect = g.O.Object.effect c.args.task.now.object.now in
    let rows = c.args.task.now.rows.now in
    let found = all_found g.O.Object.meaning c.args.seen.now in
    let frame = c.args.frame in
    let here = view c.index.result.now in
    let at = slice_get-map view c.args.seen.now.keys frame.place ∙ ap (option_map view) c.index.ensures in
    let events = are.events in
    let early = c.requires.left in
    let live : frame.next < length history = omega (arith, events, early) in
    let is_at = top_at effect history processes rows are (IsLed effect history exact start) (led_on effect history exact start) start found c.args.stack.now.items frame h here at live in
    let attempt = c.in-Some-2.attempt in
    let after = g.O.Object.meaning attempt.state in
    let choice = MatchOption-at_some (AreAllAnswered effect history found here frame.next)
    (λ a. IsChoice effect history rows found here frame.next frame.limit a.next a.process (g.O.Object.meaning a.state)) attempt c.in-Some-2.is (c.in_ok-attempt.ensures.chosen history found is_at) in
    let tried : Frame = record { place = frame.place; next = attempt.next; id = c.in_ok-id.id; limit = frame.limit } in
    let to = view c.in_ok-id.there in
    let t = chosen_tried effect history processes (IsLed effect history exact start) (led_on effect history exact start) start rows found here is_at.0 frame.limit is_at.1 frame.next attempt.next attempt.process after tried.id to
    c.in_ok-id.ensures.id c.in_ok-id.ensures.found choice in
    let own_rows = step_rows effect history rows here to tried.id t.step is_at.0 in
    let start_there = c.in_ok-id.there in
    let within = some_at (λ a. a.process < length here.counts) c.in_ok-attempt.field-0 attempt c.in-Some-2.is c.in_ok-attempt.ensures.within in
    let more : IsOneMore here.counts tried.id start_there.counts.items = record {
      within = subst (λ (i : CallId). i.process < length here.counts) (sym c.in_ok-id.ensures.id) within;
      number = t.step.number;
      is = ap (λ (d : Configuration g.O.Object.Meaning). d.counts) c.in_ok-id.ensures.found ∙ ap (λ (i : CallId). set here.counts i.process i.number) (sym c.in_ok-id.ensures.id);
    } in
    let event_rows = c.requires.rows in
    let events_of = map event_of c.args.task.now.events.now in
    let bound = subst (λ (xs : List ℕ). IsLimit history xs c.next_limit-limit.result) c.deref-2.ensures
    (limit_moved events_of history event_rows.0 processes rows event_rows.1 are c.deref-2.result.now c.next_limit-limit.result
    (c.next_limit-limit.ensures here.counts tried.id (subst (λ (xs : List ℕ). IsOneMore here.counts tried.id xs) (sym c.deref-2.ensures) more)
    (limit_moved history events_of processes event_rows.0 rows are event_rows.1 here.counts c.args.frame.limit is_at.1))) in
    let passes = c.in_ok-limit.ensures.passed history own_rows bound in
    let kept = c.is_stood_for.new.there in
    let same = c.in_ok-is_stood_for.ensures.same in
    let size = passes_size effect history passes.passes in
    let there_rows = subst (λ (n : ℕ). AreRows history n rows) (sym size) own_rows in
    concluded effect history processes rows are (IsLed effect history exact start) (led_on effect history exact start) start found c.args.stack.now.items frame h here at tried refl refl t.fewer live
    (λ path. path.items) to (view kept) c.push.new.self.items c.passed.new.stack.items (all_found g.O.Object.meaning c.arrive.new.seen) c.arrive.new.stack.items c.in_ok-arrived.arrived t.step t.covers c.in_ok-push.ensures.items
    (subst (λ (d : Configuration g.O.Object.Meaning). IsPassed effect history frame.place to d c.push.new.self.items c.passed.new.stack.items) (sym same) passes)
    (c.in_ok-arrived.ensures.arrival history (subst (λ (d : Configuration g.O.Object.Meaning). AreRows history (length d.counts) rows) (sym same) there_rows)
    (subst (λ (d : Configuration g.O.Object.Meaning). IsLimit history d.counts c.in_ok-limit.limit) (sym same) (c.in_ok-limit.ensures.limit history own_rows bound)))

pub returns-then-branch-clause-search : goal.returns-then-branch-clause-search
returns-then-branch-clause-search g c = λ history processes exact start are h.
    let view = found_in g.O.Object.meaning in
    let effect = g.O.Object.effect c.args.task.now.object.now in
    let rows = c.args.task.now.rows.now in
    let found = all_found g.O.Object.meaning c.args.seen.now in
    let frame = c.args.frame in
    let here = view c.index.result.now in
    let at = slice_get-map view c.args.seen.now.keys frame.place ∙ ap (option_map view) c.index.ensures in
    let events = are.events in
    let early = c.requires.left in
    let live : frame.next < length history = omega (arith, events, early) in
    let is_at = top_at effect history processes rows are (IsLed effect history exact start) (led_on effect history exact start) start found c.args.stack.now.items frame h here at live in
    let attempt = c.in-Some-2.attempt in
    let after = g.O.Object.meaning attempt.state in
    let choice = MatchOption-at_some (AreAllAnswered effect history found here frame.next)
    (λ a. IsChoice effect history rows found here frame.next frame.limit a.next a.process (g.O.Object.meaning a.state)) attempt c.in-Some-2.is (c.in_ok-attempt.ensures.chosen history found is_at) in
    let tried : Frame = record { place = frame.place; next = attempt.next; id = c.in_ok-id.id; limit = frame.limit } in
    let to = view c.in_ok-id.there in
    let t = chosen_tried effect history processes (IsLed effect history exact start) (led_on effect history exact start) start rows found here is_at.0 frame.limit is_at.1 frame.next attempt.next attempt.process after tried.id to
    c.in_ok-id.ensures.id c.in_ok-id.ensures.found choice in
    let own_rows = step_rows effect history rows here to tried.id t.step is_at.0 in
    let start_there = c.in_ok-id.there in
    let within = some_at (λ a. a.process < length here.counts) c.in_ok-attempt.field-0 attempt c.in-Some-2.is c.in_ok-attempt.ensures.within in
    let more : IsOneMore here.counts tried.id start_there.counts.items = record {
      within = subst (λ (i : CallId). i.process < length here.counts) (sym c.in_ok-id.ensures.id) within;
      number = t.step.number;
      is = ap (λ (d : Configuration g.O.Object.Meaning). d.counts) c.in_ok-id.ensures.found ∙ ap (λ (i : CallId). set here.counts i.process i.number) (sym c.in_ok-id.ensures.id);
    } in
    let event_rows = c.requires.rows in
    let events_of = map event_of c.args.task.now.events.now in
    let bound = subst (λ (xs : List ℕ). IsLimit history xs c.next_limit-limit.result) c.deref-2.ensures
    (limit_moved events_of history event_rows.0 processes rows event_rows.1 are c.deref-2.result.now c.next_limit-limit.result
    (c.next_limit-limit.ensures here.counts tried.id (subst (λ (xs : List ℕ). IsOneMore here.counts tried.id xs) (sym c.deref-2.ensures) more)
    (limit_moved history events_of processes event_rows.0 rows are event_rows.1 here.counts c.args.frame.limit is_at.1))) in
    let passes = c.in_ok-limit.ensures.passed history own_rows bound in
    let there = c.passed.new.there in
    let size = passes_size effect history passes.passes in
    let there_rows = subst (λ (n : ℕ). AreRows history n rows) (sym size) own_rows in
    let from_is = at in
    stood_for effect history processes rows are (IsLed effect history exact start) (led_on effect history exact start) start found c.args.stack.now.items frame h here at tried refl refl t.fewer live
    to (view there) c.push.new.self.items c.passed.new.stack.items t.step t.covers c.in_ok-push.ensures.items passes
    (c.in_ok-is_stood_for.ensures.stands history here there_rows (c.in_ok-limit.ensures.limit history own_rows bound) from_is c.if-branch.true)

pub chosen-requires-clause-worded : goal.chosen-requires-clause-worded
chosen-requires-clause-worded g c = c.requires.worded c.index.result.now (contains_at c.args.seen.now.keys c.args.frame.place c.index.result.now c.index.ensures)
