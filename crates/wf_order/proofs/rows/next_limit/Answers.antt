-- All that ends before the limit is taken; what ends from there on is looked at.
use Rattle.std.proofs.Common.{◌∙◌, sym, ap, subst, ℕ, List, Some, map, arith}
use Rattle.std.proofs.lemmas.List.{length-map}
use Rattle.std.proofs.lemmas.Option.{slice_get_within}
use Rattle.wf_history.specs.History.{End}
use Rattle.wf_history.specs.View.{event_of}
use Rattle.wf_history.proofs.Positions.{one_item}
use Rattle.wf_order.specs.Steps.{IsTaken}
use Rattle.wf_order.proofs.Limits.{one_further}
use Rattle.wf_lookup.proofs.Items.{item_here}
use Rattle.wf_order.proofs.Places.{same_end}
use Rattle.wf_order.proofs.Soundness.{taken_more}
use Rattle.wf_order.proofs.rows.next_limit.Goals as goal

pub loop-place-init : goal.loop-place-init
loop-place-init c = λ before id more bound a reply k at lt. subst (λ (xs : List ℕ). IsTaken xs a) (sym more.is) (taken_more before id more.within more.number a (bound.taken a reply k at lt))

pub loop-place-preserved-in-Begin : goal.loop-place-preserved-in-Begin
loop-place-preserved-in-Begin c = λ before id more bound.
    let place = c.loop-place.place in
    let events = map event_of c.args.events.now in
    let here = item_here event_of c.args.events.now place c.index-events-place.result c.loop-place-test.true c.index-events-place.is in
    one_further events c.args.counts.now place (c.loop-place.invariant before id more bound)
    (λ a reply at. let same = one_item events place (event_of c.index-events-place.result) (End a reply) here at in let own = c.in-Begin.ensures in absurd (cc))

pub loop-place-preserved-in-Applied : goal.loop-place-preserved-in-Applied
loop-place-preserved-in-Applied c = λ before id more bound.
    let place = c.loop-place.place in
    let events = map event_of c.args.events.now in
    let here = item_here event_of c.args.events.now place c.index-events-place.result c.loop-place-test.true c.index-events-place.is in
    one_further events c.args.counts.now place (c.loop-place.invariant before id more bound)
    (λ a reply at. let same = one_item events place (event_of c.index-events-place.result) (End a reply) here at in let own = c.in-Applied.ensures in absurd (cc))

pub loop-place-preserved : goal.loop-place-preserved
loop-place-preserved c = λ before id more bound.
    let place = c.loop-place.place in
    let events = map event_of c.args.events.now in
    let here = item_here event_of c.args.events.now place c.index-events-place.result c.loop-place-test.true c.index-events-place.is in
    one_further events c.args.counts.now place (c.loop-place.invariant before id more bound)
    (λ a reply at.
    let same = one_item events place (event_of c.index-events-place.result) (End a reply) here at in
    let own = same_end events c.in-End.id a _ reply (c.in-End.ensures ∙ same) in
    subst (λ i. IsTaken c.args.counts.now i) own (c.is_taken.ensures.0 c.if-not-is_taken.false))

pub returns-then-not-is_taken : goal.returns-then-not-is_taken
returns-then-not-is_taken c = λ before id more bound.
    let place = c.loop-place.place in
    let events = map event_of c.args.events.now in
    let here = item_here event_of c.args.events.now place c.index-events-place.result c.loop-place-test.true c.index-events-place.is in
    let inside = slice_get_within events place (event_of c.index-events-place.result) here in
    record {
      within = omega (arith, inside);
      taken = c.loop-place.invariant before id more bound;
      first = λ lt. (c.in-End.id, _, here ∙ ap Some (sym c.in-End.ensures), λ t. let yes = c.is_taken.ensures.1 t in let not = c.if-not-is_taken.true in absurd (cc));
    }

pub returns : goal.returns
returns c = λ before id more bound.
    let past = c.loop-place-test.false in
    let size = length-map c.args.events.now event_of in
    record {
      within = omega (arith, size);
      taken = λ a reply k at lt. c.loop-place.invariant before id more bound a reply k at (omega (arith, lt, past));
      first = λ lt. absurd (omega (arith, lt, size));
    }
