use Rattle.std.proofs.Common.{◌≡◌, ◌∙◌, Some, ap, arith, map, refl, sym}
use Rattle.std.proofs.lemmas.Bool.{false≢true}
use Rattle.std.proofs.lemmas.List.{length-map}
use Rattle.ob_interface.specs.Call.{ObjectCall, Reply}
use Rattle.ob_object_calls.proofs.Items.{item_of, none_at_all, none_more}
use Rattle.ob_object_calls.proofs.overtaking.begin_of.Goals as goal
use Rattle.wf_history.specs.History.{Begin, Event}
use Rattle.wf_history.specs.View.{event_of}
use Rattle.wf_history.specs.declared.event.CallId.{CallId}

abbrev Begins : CallId → Event ObjectCall Reply → Type 0
Begins id event = (call : ObjectCall) × (event ≡ Begin id call)

pub returns-then-begins-clause-place : goal.returns-then-begins-clause-place
returns-then-begins-clause-place c =
    let b = c.begins.ensures.0 c.if-begins.true in
    (b.0, item_of event_of c.args.events.now c.loop-place.place c.index-events-place.result c.loop-place-test.true c.index-events-place.is ∙ ap Some b.1)

pub loop-place-preserved : goal.loop-place-preserved
loop-place-preserved c =
    none_more (Begins c.args.id) (map event_of c.args.events.now) c.loop-place.place (event_of c.index-events-place.result)
    (item_of event_of c.args.events.now c.loop-place.place c.index-events-place.result c.loop-place-test.true c.index-events-place.is) c.loop-place.invariant
    (λ b. false≢true (sym c.if-begins.false ∙ c.begins.ensures.1 b))

pub returns-clause-place : goal.returns-clause-place
returns-clause-place c =
    let all = length-map c.args.events.now event_of in
    λ call begun. none_at_all (Begins c.args.id) (map event_of c.args.events.now) c.loop-place.place (omega (arith, all, c.loop-place-test.false)) c.loop-place.invariant (Begin c.args.id call) begun (call, refl)
