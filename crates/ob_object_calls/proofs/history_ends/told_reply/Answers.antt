use Rattle.std.proofs.Common.{◌≡◌, ◌∙◌, Some, ap, arith, map, refl, sym}
use Rattle.std.proofs.lemmas.List.{length-map}
use Rattle.ob_interface.specs.Call.{ObjectCall, Reply}
use Rattle.ob_mean.specs.View as Interpreter
use Rattle.ob_object_calls.proofs.Items.{item_of, none_at_all, none_more}
use Rattle.ob_object_calls.proofs.history_ends.told_reply.Goals as goal
use Rattle.wf_history.proofs.Positions.{contains_at}
use Rattle.wf_history.specs.History.{End, Event}
use Rattle.wf_history.specs.View.{event_of}
use Rattle.wf_history.specs.declared.event.CallId.{CallId}

abbrev Ends : CallId → Event ObjectCall Reply → Type 0
Ends id event = (reply : Reply) × (event ≡ End id reply)

pub returns-in-Some : goal.returns-in-Some
returns-in-Some c =
    let i = c.loop-event.event-index in
    let history = map event_of c.args.events.now in
    let at = item_of event_of c.args.events.now i c.event-item.result c.loop-event-test.true c.event-item.is in
    contains_at history i (End c.args.id (Interpreter.reply_of c.in_ok-reply.reply)) (at ∙ ap Some (c.in-Some.ensures ∙ ap (End c.args.id) (sym c.in_ok-reply.ensures)))

pub loop-event-preserved : goal.loop-event-preserved
loop-event-preserved c =
    let i = c.loop-event.event-index in
    let history = map event_of c.args.events.now in
    let at = item_of event_of c.args.events.now i c.event-item.result c.loop-event-test.true c.event-item.is in
    none_more (Ends c.args.id) history i (event_of c.event-item.result) at c.loop-event.invariant
    (λ e. c.in_default.ensures e.0 e.1)

pub returns : goal.returns
returns c =
    let history = map event_of c.args.events.now in
    let all = length-map c.args.events.now event_of in
    λ reply has. none_at_all (Ends c.args.id) history c.loop-event.event-index (omega (arith, all, c.loop-event-test.false)) c.loop-event.invariant (End c.args.id reply) has (reply, refl)
