use Rattle.std.proofs.Common.{◌≡◌, ◌∙◌, Some, ap, arith, map, refl}
use Rattle.std.proofs.lemmas.List.{length-map}
use Rattle.std.specs.HashSet as bag
use Rattle.std.specs.Prelude.{IsTrue}
use Rattle.ob_interface.specs.Call.{ObjectCall, Reply}
use Rattle.ob_object_run.specs.Places.{same_id}
use Rattle.ob_object_calls.proofs.Items.{item_of, none_at_all, none_more}
use Rattle.ob_object_calls.proofs.overtaking.first_ended.Goals as goal
use Rattle.wf_history.proofs.Positions.{contains_at}
use Rattle.wf_history.specs.History.{End, Event}
use Rattle.wf_history.specs.View.{event_of}
use Rattle.wf_history.specs.declared.event.CallId.{CallId}

pub returns-in-Some : goal.returns-in-Some
returns-in-Some c =
    let e = c.in-Some.ensures in
    let at = item_of event_of c.args.events.now c.loop-event.event-index c.event-item.result c.loop-event-test.true c.event-item.is in
    (e.0, (e.1.0, contains_at (map event_of c.args.events.now) c.loop-event.event-index (End c.in-Some.id e.1.0) (at ∙ ap Some e.1.1)))

pub loop-event-preserved : goal.loop-event-preserved
loop-event-preserved c =
    none_more (λ (event : Event ObjectCall Reply). (id : CallId) × ((reply : Reply) × (IsTrue (bag.contains same_id c.args.set.now id) × (event ≡ End id reply))))
    (map event_of c.args.events.now) c.loop-event.event-index (event_of c.event-item.result)
    (item_of event_of c.args.events.now c.loop-event.event-index c.event-item.result c.loop-event-test.true c.event-item.is) c.loop-event.invariant
    (λ e. c.in_default.ensures e.0 e.1.0 e.1.1.0 e.1.1.1)

pub returns : goal.returns
returns c =
    let all = length-map c.args.events.now event_of in
    λ id reply listed ended.
    none_at_all (λ (event : Event ObjectCall Reply). (id : CallId) × ((reply : Reply) × (IsTrue (bag.contains same_id c.args.set.now id) × (event ≡ End id reply))))
    (map event_of c.args.events.now) c.loop-event.event-index (omega (arith, all, c.loop-event-test.false)) c.loop-event.invariant (End id reply) ended (id, (reply, (listed, refl)))
