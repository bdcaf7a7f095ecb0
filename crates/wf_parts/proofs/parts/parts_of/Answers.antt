use Rattle.std.proofs.Common.{◌≡◌, ◌∙◌, ◌+◌, ◌++◌, ◌∷◌, [], ℕ, suc, sym, subst, ap, arith, map, take}
use Rattle.std.proofs.lemmas.List.{length-map, take_all}
use Rattle.std.proofs.lemmas.Result.{err_from_is_err_and}
use Rattle.wf_history.specs.View.{event_of}
use Rattle.wf_history.proofs.Positions.{take_next}
use Rattle.wf_lookup.proofs.Items.{item_here}
use Rattle.wf_parts.proofs.Splitting.{is_next, parts_are, split_none}
use Rattle.wf_parts.specs.Parts.{Events}
use Rattle.wf_parts.specs.Split.{AreSplit}
use Rattle.wf_parts.specs.SplitView.{split_in}
use Rattle.wf_parts.proofs.parts.parts_of.Goals as goal

pub loop-event-init : goal.loop-event-init
loop-event-init c = split_none c.args.history.now c.args.by (split_in c.new-split.result) c.new-split.ensures.places c.new-split.ensures.parts

pub take_up-requires : goal.take_up-requires
take_up-requires c =
    let events = map event_of c.events-events.result.now in
    let i = c.loop-event.event-index in
    let event = event_of c.event-item.result in (
      c.args.history.now,
      take i events,
      c.loop-event.invariant,
      is_next c.args.history.now events i event c.events-events.ensures.value c.events-events.ensures.in_turn
          (item_here event_of c.events-events.result.now i c.event-item.result c.loop-event-test.true c.event-item.is),
    )

pub returns-in_err-take_up-clause-fault : goal.returns-in_err-take_up-clause-fault
returns-in_err-take_up-clause-fault c =
    let events = map event_of c.events-events.result.now in
    let i = c.loop-event.event-index in
    let event = event_of c.event-item.result in
    let p = err_from_is_err_and c.from_residual.result c.from_residual.ensures.1 in
    rw (p.1, p.2)
    (c.in_err-take_up.ensures.fault c.args.history.now (take i events) c.loop-event.invariant
    (is_next c.args.history.now events i event c.events-events.ensures.value c.events-events.ensures.in_turn
    (item_here event_of c.events-events.result.now i c.event-item.result c.loop-event-test.true c.event-item.is)))

pub loop-event-preserved : goal.loop-event-preserved
loop-event-preserved c =
    let events = map event_of c.events-events.result.now in
    let i = c.loop-event.event-index in
    let event = event_of c.event-item.result in
    let here = item_here event_of c.events-events.result.now i c.event-item.result c.loop-event-test.true c.event-item.is in
    let one_more : i + 1 ≡ suc i = omega arith in
    let next : take (i + 1) events ≡ take i events ++ event ∷ [] = ap (λ (n : ℕ). take n events) one_more ∙ take_next events i event here in
    subst (λ (es : Events). AreSplit c.args.history.now c.args.by es (split_in c.take_up.new.split)) (sym next)
    (c.in_ok-take_up.ensures.split c.args.history.now (take i events) c.loop-event.invariant
    (is_next c.args.history.now events i event c.events-events.ensures.value c.events-events.ensures.in_turn here))

pub returns-clause-parts : goal.returns-clause-parts
returns-clause-parts c =
    let events = map event_of c.events-events.result.now in
    let size = length-map c.events-events.result.now event_of in
    let end = c.loop-event-test.false in
    parts_are c.args.history.now c.args.by (split_in c.loop-event.split)
    (subst (λ (es : Events). AreSplit c.args.history.now c.args.by es (split_in c.loop-event.split))
    (take_all c.loop-event.event-index events (omega (arith, size, end)) ∙ c.events-events.ensures.value) c.loop-event.invariant)
