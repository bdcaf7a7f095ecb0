-- The End of a call that isn't in the set is the first of those.
use Rattle.std.proofs.Common.{◌≡◌, sym, ap, map, length, arith, ◌<◌, ◌∙◌, Some, None, false, not}
use Rattle.std.proofs.lemmas.List.{length-map}
use Rattle.ob_object_run.proofs.Placing.{item_of, nowhere_more, nowhere_all}
use Rattle.ob_object_run.proofs.Arranging.{no_end, end_listed}
use Rattle.ob_object_run.proofs.order_checker.first_missing.Goals as goal
use Rattle.ob_object_run.proofs.order_checker.first_missing.Goals.{in_default-via-in-None-1, in_default-via-in-Some+else-is_none}
use Rattle.wf_history.specs.declared.event.CallId.{CallId}
use Rattle.wf_history.specs.History.{End}
use Rattle.ob_interface.specs.Call.{Reply}
use Rattle.std.proofs.lemmas.Option.{MatchOption-at_none}
use Rattle.std.proofs.lemmas.Bool.{false≢true}
use Rattle.std.specs.Option.{is_some}
use Rattle.ob_object_run.specs.OrderFaults.{EndsUnlisted}
use Rattle.wf_history.specs.View.{event_of}

pub returns-in-loop-event : goal.returns-in-loop-event
returns-in-loop-event c =
    let i = c.loop-event.event-index in
    let lt : i < length c.args.events.now = omega arith in
    let at = item_of event_of c.args.events.now i c.event-item.result lt c.event-item.is in
    let ended = c.in-Some.ensures in
    let lacks : is_some c.get.result ≡ false = c.is_none.ensures ∙ ap not c.if-is_none.true in
    λ order lists. (
      ended.0,
      record {
        place = i;
        here = at ∙ ap Some ended.1;
        holds = λ listed. false≢true (sym lacks ∙ ap is_some c.get.ensures ∙ (lists c.in-Some.id).1 listed);
        earlier = c.loop-event.invariant order lists;
      },
    )

pub loop-event-preserved : goal.loop-event-preserved
loop-event-preserved c =
    let i = c.loop-event.event-index in
    let history = map event_of c.args.events.now in
    let lt : i < length c.args.events.now = omega arith in
    let at = item_of event_of c.args.events.now i c.event-item.result lt c.event-item.is in
    λ order lists.
    nowhere_more (EndsUnlisted history order) history i (event_of c.event-item.result) at (c.loop-event.invariant order lists)
    (elim c.in_default.branch [
      | in_default-via-in-None-1 w ↦
          let none : c.ended.result ≡ None = cc in
          no_end history order i (event_of c.event-item.result)
          (MatchOption-at_none ((id : CallId) (reply : Reply) → event_of c.event-item.result ≡ End id reply → ⊥) (λ (id : CallId). (reply : Reply) × (event_of c.event-item.result ≡ End id reply)) none c.ended.ensures)
      | in_default-via-in-Some+else-is_none w ↦
          end_listed history order i (event_of c.event-item.result) w.in-Some.id w.in-Some.ensures.0 w.in-Some.ensures.1
          ((lists w.in-Some.id).0 (sym (ap is_some w.get.ensures) ∙ w.is_none.ensures ∙ ap not w.if-is_none.false))
    ])

pub returns : goal.returns
returns c =
    let history = map event_of c.args.events.now in
    let all = length-map c.args.events.now event_of in
    λ order lists. nowhere_all (EndsUnlisted history order) history c.loop-event.event-index (omega (arith, all)) (c.loop-event.invariant order lists)
