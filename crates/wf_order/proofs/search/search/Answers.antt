-- The search from its start to its end.
use Rattle.std.proofs.Common.{◌≡◌, sym, ap, subst, ◌∙◌, ℕ, ◌+◌, ◌<◌, ◌≤◌, List, [], length, map, arith, true}
use Rattle.std.proofs.lemmas.List.{length-map, nil_from_length}
use Rattle.std.proofs.lemmas.Option.{MatchOption-at_none, MatchOption-at_some}
use Rattle.std.specs.List.{Contains}
use Rattle.ob_interface.specs.Call.{ObjectCall, Reply}
use Rattle.wf_history.specs.History.{Event}
use Rattle.wf_history.specs.View.{event_of}
use Rattle.wf_history.proofs.Positions.{place_of}
use Rattle.wf_order.specs.declared.search.Frame.{Frame}
use Rattle.wf_order.specs.declared.kept_rows.Rows.{Rows}
use Rattle.wf_order.specs.declared.seen.Found.{Found}
use Rattle.wf_order.specs.Rows.{AreRows, begun_rows, total}
use Rattle.wf_order.specs.Search.{found_in, all_found, IsLed, IsSearch, try_cost, work}
use Rattle.wf_order.specs.Steps.{IsLimit, start_at}
use Rattle.wf_order.proofs.Completeness.{none_taken}
use Rattle.wf_order.proofs.Ending.{start_legal, start_search, start_rows, arrival_at, many}
use Rattle.wf_order.proofs.Keeping.{found_apart, found_alike, found_eq}
use Rattle.wf_order.proofs.Remembering.{none_made}
use Rattle.wf_order.proofs.Searching.{led_on, none_legal, top_within}
use Rattle.wf_order.proofs.Soundness.{sound}
use Rattle.wf_order.proofs.search.search.Goals as goal

-- the limit of the start, as it is found
start_limit : (rows : Rows) (start counts : List ℕ) (limit : ℕ) → counts ≡ start → ((history : List (Event ObjectCall Reply)) → AreRows history (length counts) rows → IsLimit history counts limit) →
    (history : List (Event ObjectCall Reply)) → AreRows history (length start) rows → IsLimit history start limit
start_limit rows start counts limit e found history are =
    subst (λ (xs : List ℕ). IsLimit history xs limit) e (found history (subst (λ (xs : List ℕ). AreRows history (length xs) rows) (sym e) are))

pub arrive-requires-clause-worded : goal.arrive-requires-clause-worded
arrive-requires-clause-worded g c = λ f there.
    let none = nil_from_length c.args.seen.now.keys c.requires.empty in
    let p = place_of [] f (subst (λ (l : List (Found g.row.O-State.Denot)). Contains l f) none there) in
    let e = p.1 in absurd (cc)

pub returns-in-Some-clause-answer : goal.returns-in-Some-clause-answer
returns-in-Some-clause-answer g c =
    let effect = g.O.Object.effect c.args.task.now.object.now in
    let opening = g.O.Object.opening c.args.task.now.object.now in
    let history = map event_of c.args.task.now.events.now in
    let view = found_in g.O.Object.meaning in
    let rows = c.args.task.now.rows.now in
    let start = view c.in_ok-start.start in
    let are = start_rows history c.args.processes rows opening start c.in_ok-start.ensures.start c.requires.rows in
    let a = arrival_at effect history _ _ _ _ (λ path. path.items) start (start_at c.args.processes opening) _ _ c.in_ok-start.ensures.start c.in-Some.is (c.in_ok-order.ensures.arrival history are (start_limit rows start.counts c.deref.result.now c.limit_of-limit.result c.deref.ensures c.limit_of-limit.ensures history are)) in
    let none = ap (map view) (nil_from_length c.args.seen.now.keys c.requires.empty) in
    (opening, start_legal effect history c.args.processes rows c.requires.rows opening (all_found g.O.Object.meaning c.args.seen.now) [] c.new-stack.result.items [] none c.new-stack.ensures.items c.in-Some.order.items a)

pub loop-frame-init : goal.loop-frame-init
loop-frame-init g c =
    let effect = g.O.Object.effect c.args.task.now.object.now in
    let opening = g.O.Object.opening c.args.task.now.object.now in
    let history = map event_of c.args.task.now.events.now in
    let view = found_in g.O.Object.meaning in
    let rows = c.args.task.now.rows.now in
    let start = view c.in_ok-start.start in
    let are = start_rows history c.args.processes rows opening start c.in_ok-start.ensures.start c.requires.rows in
    let a = arrival_at effect history _ _ _ _ (λ path. path.items) start (start_at c.args.processes opening) _ _ c.in_ok-start.ensures.start c.in_default.is (c.in_ok-order.ensures.arrival history are (start_limit rows start.counts c.deref.result.now c.limit_of-limit.result c.deref.ensures c.limit_of-limit.ensures history are)) in
    let none = ap (map view) (nil_from_length c.args.seen.now.keys c.requires.empty) in
    let size = length-map c.args.task.now.events.now event_of in
    let calls = c.requires.calls in
    let few : total (begun_rows rows) ≤ length history = omega (arith, calls, size) in
    let s = start_search effect history c.args.processes rows c.requires.rows opening (all_found g.O.Object.meaning c.args.seen.now) (all_found g.O.Object.meaning c.arrive.new.seen) c.new-stack.result.items c.arrive.new.stack.items none c.new-stack.ensures.items few a in (
      s.0,
      c.in_ok-order.ensures.worded,
      subst (λ (n : ℕ). n + work c.args.processes rows (all_found g.O.Object.meaning c.arrive.new.seen) c.arrive.new.stack.items ≤ try_cost c.args.processes (length c.args.task.now.events.now + 1)) (length-map c.arrive.new.seen.keys view)
          (subst (λ (n : ℕ). length (all_found g.O.Object.meaning c.arrive.new.seen) + work c.args.processes rows (all_found g.O.Object.meaning c.arrive.new.seen) c.arrive.new.stack.items ≤ try_cost c.args.processes (n + 1)) (length-map c.args.task.now.events.now event_of) s.1),
      none_made g.O.Object.meaning g.O.Object.words_of effect c.in_ok-calls.calls c.in_ok-calls.ensures,
    )

pub returns-then-len-most-clause-answer : goal.returns-then-len-most-clause-answer
returns-then-len-most-clause-answer g c =
    let effect = g.O.Object.effect c.args.task.now.object.now in
    let opening = g.O.Object.opening c.args.task.now.object.now in
    let history = map event_of c.args.task.now.events.now in
    let view = found_in g.O.Object.meaning in
    let keys = c.loop-frame.seen.keys in
    let found = all_found g.O.Object.meaning c.loop-frame.seen in
    let size : length keys ≡ length found = sym (length-map keys view) in
    let len : c.len.result ≡ length keys = c.len.ensures.len in
    let above = c.if-len-most.true in
    let bound : length keys + work c.args.processes c.args.task.now.rows.now found c.loop-frame.stack.items ≤ try_cost c.args.processes (length c.args.task.now.events.now + 1) = c.loop-frame.invariant.2 in
    let events = length-map c.args.task.now.events.now event_of in
    let cost : try_cost c.args.processes (length history + 1) ≡ try_cost c.args.processes (length c.args.task.now.events.now + 1) = ap (λ (n : ℕ). try_cost c.args.processes (n + 1)) events in (
      many effect history c.args.processes c.args.most opening found c.loop-frame.stack.items c.loop-frame.invariant.0
          (found_apart g.O.Object.meaning g.O.Object.words_of (λ a b. g.met.O.Object.told_apart a b) found_eq found_alike keys c.loop-frame.invariant.1 c.len.ensures.unique)
          (omega (arith, size, len, above)),
      omega (arith, len, above, bound, cost),
    )

pub advance-requires-clause-place : goal.advance-requires-clause-place
advance-requires-clause-place g c =
    let effect = g.O.Object.effect c.args.task.now.object.now in
    let history = map event_of c.args.task.now.events.now in
    let view = found_in g.O.Object.meaning in
    let start = start_at c.args.processes (g.O.Object.opening c.args.task.now.object.now) in
    let found = all_found g.O.Object.meaning c.loop-frame.seen in
    let h = subst (λ (l : List Frame). IsSearch effect history c.args.processes (IsLed effect history true start) start found l) c.in-Some-pop.ensures.items c.loop-frame.invariant.0 in
    let within = top_within effect history c.args.processes (IsLed effect history true start) (led_on effect history true start) start found c.pop.new.self.items c.in-Some-pop.frame h in
    let size = length-map c.loop-frame.seen.keys view in
    omega (arith, within, size)

pub advance-requires-clause-made : goal.advance-requires-clause-made
advance-requires-clause-made g c = c.loop-frame.invariant.3

pub returns-in-Some-2-clause-answer : goal.returns-in-Some-2-clause-answer
returns-in-Some-2-clause-answer g c =
    let effect = g.O.Object.effect c.args.task.now.object.now in
    let history = map event_of c.args.task.now.events.now in
    let start = start_at c.args.processes (g.O.Object.opening c.args.task.now.object.now) in
    let found = all_found g.O.Object.meaning c.loop-frame.seen in
    let h = subst (λ (l : List Frame). IsSearch effect history c.args.processes (IsLed effect history true start) start found l) c.in-Some-pop.ensures.items c.loop-frame.invariant.0 in
    let end = MatchOption-at_some _ _ c.in-Some-2.order c.in-Some-2.is (c.in_ok-order-2.ensures.search history c.args.processes true start c.requires.rows h) in
    (end.0.state, sound effect history end.1 (none_taken c.args.processes) end.2)

pub loop-frame-smaller : goal.loop-frame-smaller
loop-frame-smaller g c =
    let effect = g.O.Object.effect c.args.task.now.object.now in
    let history = map event_of c.args.task.now.events.now in
    let rows = c.args.task.now.rows.now in
    let start = start_at c.args.processes (g.O.Object.opening c.args.task.now.object.now) in
    let found = all_found g.O.Object.meaning c.loop-frame.seen in
    let more = all_found g.O.Object.meaning c.advance.new.seen in
    let h = subst (λ (l : List Frame). IsSearch effect history c.args.processes (IsLed effect history true start) start found l) c.in-Some-pop.ensures.items c.loop-frame.invariant.0 in
    let both = MatchOption-at_none _ _ c.in_default-2.is (c.in_ok-order-2.ensures.search history c.args.processes true start c.requires.rows h) in
    subst (λ (l : List Frame). work c.args.processes rows more c.advance.new.stack.items < work c.args.processes rows found l) (sym c.in-Some-pop.ensures.items) both.1

pub loop-frame-preserved : goal.loop-frame-preserved
loop-frame-preserved g c =
    let effect = g.O.Object.effect c.args.task.now.object.now in
    let opening = g.O.Object.opening c.args.task.now.object.now in
    let history = map event_of c.args.task.now.events.now in
    let rows = c.args.task.now.rows.now in
    let start = start_at c.args.processes (g.O.Object.opening c.args.task.now.object.now) in
    let found = all_found g.O.Object.meaning c.loop-frame.seen in
    let more = all_found g.O.Object.meaning c.advance.new.seen in
    let h = subst (λ (l : List Frame). IsSearch effect history c.args.processes (IsLed effect history true start) start found l) c.in-Some-pop.ensures.items c.loop-frame.invariant.0 in
    let both = MatchOption-at_none _ _ c.in_default-2.is (c.in_ok-order-2.ensures.search history c.args.processes true start c.requires.rows h) in
    let less = subst (λ (l : List Frame). work c.args.processes rows more c.advance.new.stack.items < work c.args.processes rows found l) (sym c.in-Some-pop.ensures.items) both.1 in
    let one = c.in_ok-order-2.ensures.one_more in
    let bound = c.loop-frame.invariant.2 in
    (both.0, c.in_ok-order-2.ensures.worded, omega (arith, less, one, bound), c.in_ok-order-2.ensures.made)

pub returns-clause-answer : goal.returns-clause-answer
returns-clause-answer g c =
    let effect = g.O.Object.effect c.args.task.now.object.now in
    let opening = g.O.Object.opening c.args.task.now.object.now in
    let history = map event_of c.args.task.now.events.now in
    let start = start_at c.args.processes opening in
    let found = all_found g.O.Object.meaning c.loop-frame.seen in
    let none : c.loop-frame.stack.items ≡ [] = nil_from_length c.loop-frame.stack.items (sym c.loop-frame.stack.ok.0 ∙ c.in_default-pop.ensures.cases.0) in
    none_legal effect history c.args.processes c.args.task.now.rows.now c.requires.rows opening (IsLed effect history true start) (λ call. g.met.O.Object.determined c.args.task.now.object.now call) found
    (subst (λ (l : List Frame). IsSearch effect history c.args.processes (IsLed effect history true start) start found l) none c.loop-frame.invariant.0)

pub returns-clause-whole : goal.returns-clause-whole
returns-clause-whole g c = λ e.
    let effect = g.O.Object.effect c.args.task.now.object.now in
    let opening = g.O.Object.opening c.args.task.now.object.now in
    let history = map event_of c.args.task.now.events.now in
    let start = start_at c.args.processes opening in
    let found = all_found g.O.Object.meaning c.loop-frame.seen in
    let none : c.loop-frame.stack.items ≡ [] = nil_from_length c.loop-frame.stack.items (sym c.loop-frame.stack.ok.0 ∙ c.in_default-pop.ensures.cases.0) in
    subst (λ (l : List Frame). IsSearch effect history c.args.processes (IsLed effect history true start) start found l) none c.loop-frame.invariant.0
