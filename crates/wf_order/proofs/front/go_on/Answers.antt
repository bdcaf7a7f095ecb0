-- One try more.
use Rattle.std.proofs.Common.{◌≡◌, sym, ap, subst, ◌∙◌, ◌<◌, ◌++◌, List, [], map, false, append_assoc, arith}
use Rattle.std.proofs.lemmas.List.{append-nil, length-map, nil_from_length}
use Rattle.std.proofs.lemmas.Option.{MatchOption-at_none, MatchOption-at_some}
use Rattle.wf_history.specs.View.{event_of}
use Rattle.wf_order.specs.declared.search.Frame.{Frame}
use Rattle.wf_order.specs.declared.seen.Found.{Found}
use Rattle.wf_order.specs.Search.{all_found, found_in, IsLed, IsSearch, work}
use Rattle.wf_order.specs.Steps.{start_at}
use Rattle.wf_order.proofs.Completeness.{none_taken}
use Rattle.wf_order.proofs.Remembering.{none_made}
use Rattle.wf_order.proofs.Searching.{led_on, none_legal, top_within}
use Rattle.wf_order.proofs.Soundness.{sound}
use Rattle.wf_order.proofs.front.go_on.Goals as goal

pub loop-frame-init : goal.loop-frame-init
loop-frame-init g c = record {
  search = c.requires.search;
  worded = c.requires.worded;
  grown = ([], sym (append-nil c.args.seen.now.keys));
  made = none_made g.O.Object.meaning g.O.Object.words_of (g.O.Object.effect c.args.task.now.object.now) c.in_ok-calls.calls c.in_ok-calls.ensures;
}

pub advance-requires-clause-place : goal.advance-requires-clause-place
advance-requires-clause-place g c =
    let effect = g.O.Object.effect c.args.task.now.object.now in
    let history = map event_of c.args.task.now.events.now in
    let view = found_in g.O.Object.meaning in
    let start = start_at c.args.processes (g.O.Object.opening c.args.task.now.object.now) in
    let found = all_found g.O.Object.meaning c.loop-frame.seen in
    let h = subst (λ (l : List Frame). IsSearch effect history c.args.processes (IsLed effect history false start) start found l) c.in-Some.ensures.items c.loop-frame.invariant.search in
    let within = top_within effect history c.args.processes (IsLed effect history false start) (led_on effect history false start) start found c.pop.new.self.items c.in-Some.frame h in
    let size = length-map c.loop-frame.seen.keys view in
    omega (arith, within, size)

pub advance-requires-clause-made : goal.advance-requires-clause-made
advance-requires-clause-made g c = c.loop-frame.invariant.made

pub returns-in-Some-2-clause-found : goal.returns-in-Some-2-clause-found
returns-in-Some-2-clause-found g c =
    let effect = g.O.Object.effect c.args.task.now.object.now in
    let history = map event_of c.args.task.now.events.now in
    let start = start_at c.args.processes (g.O.Object.opening c.args.task.now.object.now) in
    let found = all_found g.O.Object.meaning c.loop-frame.seen in
    let h = subst (λ (l : List Frame). IsSearch effect history c.args.processes (IsLed effect history false start) start found l) c.in-Some.ensures.items c.loop-frame.invariant.search in
    let end = MatchOption-at_some _ _ c.in-Some-2._order c.in-Some-2.is (c.in_ok-_order.ensures.search history c.args.processes false start c.requires.rows h) in
    (end.1.0, end.0.state, sound effect history end.1.1 (none_taken c.args.processes) end.2)

pub returns-in-Some-2-clause-grown : goal.returns-in-Some-2-clause-grown
returns-in-Some-2-clause-grown g c =
    let old = c.loop-frame.invariant.grown in
    let new = c.in_ok-_order.ensures.grown in
    (old.0 ++ new.0, new.1 ∙ ap (λ (l : List (Found g.row.O-State.Denot)). l ++ new.0) old.1 ∙ append_assoc c.args.seen.now.keys old.0 new.0)

pub loop-frame-smaller : goal.loop-frame-smaller
loop-frame-smaller g c =
    let effect = g.O.Object.effect c.args.task.now.object.now in
    let history = map event_of c.args.task.now.events.now in
    let rows = c.args.task.now.rows.now in
    let start = start_at c.args.processes (g.O.Object.opening c.args.task.now.object.now) in
    let found = all_found g.O.Object.meaning c.loop-frame.seen in
    let more = all_found g.O.Object.meaning c.advance.new.seen in
    let h = subst (λ (l : List Frame). IsSearch effect history c.args.processes (IsLed effect history false start) start found l) c.in-Some.ensures.items c.loop-frame.invariant.search in
    let both = MatchOption-at_none _ _ c.in_default-2.is (c.in_ok-_order.ensures.search history c.args.processes false start c.requires.rows h) in
    subst (λ (l : List Frame). work c.args.processes rows more c.advance.new.stack.items < work c.args.processes rows found l) (sym c.in-Some.ensures.items) both.1

pub loop-frame-preserved : goal.loop-frame-preserved
loop-frame-preserved g c =
    let effect = g.O.Object.effect c.args.task.now.object.now in
    let history = map event_of c.args.task.now.events.now in
    let start = start_at c.args.processes (g.O.Object.opening c.args.task.now.object.now) in
    let found = all_found g.O.Object.meaning c.loop-frame.seen in
    let h = subst (λ (l : List Frame). IsSearch effect history c.args.processes (IsLed effect history false start) start found l) c.in-Some.ensures.items c.loop-frame.invariant.search in
    let both = MatchOption-at_none _ _ c.in_default-2.is (c.in_ok-_order.ensures.search history c.args.processes false start c.requires.rows h) in
    let old = c.loop-frame.invariant.grown in
    let new = c.in_ok-_order.ensures.grown in
    record {
      search = both.0;
      worded = c.in_ok-_order.ensures.worded;
      grown = (old.0 ++ new.0, new.1 ∙ ap (λ (l : List (Found g.row.O-State.Denot)). l ++ new.0) old.1 ∙ append_assoc c.args.seen.now.keys old.0 new.0);
      made = c.in_ok-_order.ensures.made;
    }

pub returns-clause-found : goal.returns-clause-found
returns-clause-found g c =
    let effect = g.O.Object.effect c.args.task.now.object.now in
    let opening = g.O.Object.opening c.args.task.now.object.now in
    let history = map event_of c.args.task.now.events.now in
    let start = start_at c.args.processes opening in
    let found = all_found g.O.Object.meaning c.loop-frame.seen in
    let none : c.loop-frame.stack.items ≡ [] = nil_from_length c.loop-frame.stack.items (sym c.loop-frame.stack.ok.0 ∙ c.in_default.ensures.cases.0) in
    none_legal effect history c.args.processes c.args.task.now.rows.now c.requires.rows opening (IsLed effect history false start) (λ call. g.met.O.Object.determined c.args.task.now.object.now call) found
    (subst (λ (l : List Frame). IsSearch effect history c.args.processes (IsLed effect history false start) start found l) none c.loop-frame.invariant.search)
