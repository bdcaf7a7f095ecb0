-- The number is large enough for the events so far, and no larger.
use Rattle.std.proofs.Common.{◌≡◌, ◌<◌, sym, subst, arith, ap, ◌∙◌, map, length, inl, inr}
use Rattle.std.proofs.lemmas.Bool.{cases_lt}
use Rattle.std.proofs.lemmas.Option.{slice_get_within}
use Rattle.std.proofs.lemmas.List.{length-map}
use Rattle.std.specs.List.{slice_get}
use Rattle.ob_interface.specs.Call.{ObjectCall, Reply}
use Rattle.wf_history.specs.History.{Event}
use Rattle.wf_history.specs.View.{event_of}
use Rattle.wf_history.proofs.Positions.{place_of, contains_at}
use Rattle.wf_lookup.specs.Beginnings.{IsOfProcesses}
use Rattle.wf_lookup.proofs.Counted.{needed_within, wider}
use Rattle.wf_lookup.proofs.Items.{item_here, item_at}
use Rattle.wf_lookup.proofs.counted_processes.processes_of.Goals as goal

pub loop-event-preserved : goal.loop-event-preserved
loop-event-preserved c = (
  (λ k event lt at.
      elim (cases_lt k c.loop-event.event-index) [
        | inl less ↦ wider c.loop-event.count c.in_ok-count.count event c.in_ok-count.ensures.enough.0 (c.loop-event.invariant.0 k event less at)
        | inr le ↦
            let same : k ≡ c.loop-event.event-index = omega (arith, lt, le) in
            let inside : c.loop-event.event-index < length c.args.events.now = c.loop-event-test.true in
            let here = item_at event_of c.args.events.now c.loop-event.event-index c.event-item.result event inside c.event-item.is (ap (slice_get (map event_of c.args.events.now)) (sym same) ∙ at) in
            subst (λ (e : Event ObjectCall Reply). IsOfProcesses c.in_ok-count.count e) here c.in_ok-count.ensures.enough.1
      ]),
  (λ n all.
      let inside : c.loop-event.event-index < length c.args.events.now = c.loop-event-test.true in
      let here = item_here event_of c.args.events.now c.loop-event.event-index c.event-item.result inside c.event-item.is in
      c.in_ok-count.ensures.least n (c.loop-event.invariant.1 n (λ k event lt at. all k event (omega (arith, lt)) at)) (all c.loop-event.event-index (event_of c.event-item.result) (omega arith) here)),
)

pub returns-clause-enough : goal.returns-clause-enough
returns-clause-enough c = λ event h.
    let p = place_of (map event_of c.args.events.now) event h in
    let inside = slice_get_within (map event_of c.args.events.now) p.0 event p.1 in
    let size = length-map c.args.events.now event_of in
    let end = c.loop-event-test.false in
    c.loop-event.invariant.0 p.0 event (omega (arith, inside, size, end)) p.1

pub returns-clause-least : goal.returns-clause-least
returns-clause-least c = λ n all. c.loop-event.invariant.1 n (λ k event lt at. all event (contains_at (map event_of c.args.events.now) k event at))

pub returns-in_err-count-clause-many : goal.returns-in_err-count-clause-many
returns-in_err-count-clause-many c = λ none.
    let events = map event_of c.args.events.now in
    let inside : c.loop-event.event-index < length c.args.events.now = c.loop-event-test.true in
    let here = item_here event_of c.args.events.now c.loop-event.event-index c.event-item.result inside c.event-item.is in
    let within = needed_within events c.loop-event.event-index (event_of c.event-item.result) here in
    let many = c.enough_for.ensures.many c.in_err-count.was in
    omega (arith, within, many)
