-- What is proved of the arrangement and of the replay is the verdict.
use Rattle.std.proofs.Common.{subst, map, length, List, ℕ, sym}
use Rattle.std.proofs.lemmas.Result.{err_from_is_err_and, IfErr-weaker, IfOk-from_err, on_ok_weaker}
use Rattle.ob_interface.specs.Call.{ObjectCall, Reply}
use Rattle.ob_object_run.proofs.Faults.{accepted_of, arranged_legal, err_weaker, exact_of, list_fault, replay_fault}
use Rattle.ob_object_run.proofs.order_checker.check_order_by.Goals as goal
use Rattle.ob_object_run.specs.InTurn.{FailsBy, StopsAt, TakesBegun}
use Rattle.ob_object_run.specs.LegalOrder.{CallEnds}
use Rattle.ob_object_run.specs.OrderFaults.{IsListFault, IsArranged, LeadsTo, IsReplayFault}
use Rattle.wf_history.specs.History.{Event}
use Rattle.wf_history.specs.View.{event_of}

pub replay-requires-clause-taken : goal.replay-requires-clause-taken
replay-requires-clause-taken g c =
    subst (λ (es : List (Event ObjectCall Reply)). TakesBegun g.M.CallMaker.takes g.M.CallMaker.stands es c.args.maker.now) (sym c.events-events.ensures.value) c.requires

pub returns-in_err-places-clause-fault : goal.returns-in_err-places-clause-fault
returns-in_err-places-clause-fault g c =
    let p = err_from_is_err_and c.from_residual.result c.from_residual.ensures.1 in
    rw (p.1, p.2) (λ program budget opening stands.
    list_fault program budget opening c.args.history.now c.args.order.now c.events-events.ensures.in_turn c.in_err-places.field-0.0
    (subst (λ (es : List (Event ObjectCall Reply)). IsListFault es c.args.order.now c.in_err-places.field-0.0) c.events-events.ensures.value c.in_err-places.ensures.fault))

pub returns-clause-legal : goal.returns-clause-legal
returns-clause-legal g c =
    let order = c.args.order.now in
    on_ok_weaker c.replay.result (λ made program budget opening stands.
    let l = made program budget opening stands in (
      l.0,
      arranged_legal c.args.history.now order (CallEnds program budget) opening l.0
          (subst (λ (es : List (Event ObjectCall Reply)). IsArranged es order) c.events-events.ensures.value c.in_ok-places.ensures.arranged)
          (subst (λ (es : List (Event ObjectCall Reply)). LeadsTo (CallEnds program budget) opening es order (length order) l.0) c.events-events.ensures.value l.1),
      l.2,
    ))
    c.replay.ensures.made

pub returns-clause-fault : goal.returns-clause-fault
returns-clause-fault g c =
    let order = c.args.order.now in
    let Stands = g.M.CallMaker.stands in
    err_weaker c.replay.result (StopsAt Stands (map event_of c.events-events.result.now) order c.args.maker.now) (FailsBy Stands c.args.history.now order c.args.maker.now)
    (λ e f program budget opening stands.
    replay_fault program budget opening c.args.history.now order c.events-events.ensures.in_turn
    (subst (λ (es : List (Event ObjectCall Reply)). IsArranged es order) c.events-events.ensures.value c.in_ok-places.ensures.arranged) e
    (subst (λ (es : List (Event ObjectCall Reply)). IsReplayFault program budget opening es order e) c.events-events.ensures.value (f program budget opening stands)))
    c.replay.ensures.fault

pub returns-in_err-places-clause-accepted : goal.returns-in_err-places-clause-accepted
returns-in_err-places-clause-accepted g c = λ program budget opening last stands.
    accepted_of program budget opening c.args.history.now c.args.order.now c.events-events.ensures.in_turn c.from_residual.result
    (IfErr-weaker c.from_residual.result _ _ (λ e f. f program budget opening stands) (returns-in_err-places-clause-fault g c)) last

pub returns-in_err-places-clause-exact : goal.returns-in_err-places-clause-exact
returns-in_err-places-clause-exact g c = λ program budget opening stands.
    exact_of program budget opening c.args.history.now c.args.order.now c.events-events.ensures.in_turn c.from_residual.result
    (IfErr-weaker c.from_residual.result _ _ (λ e f. f program budget opening stands) (returns-in_err-places-clause-fault g c))
    (IfOk-from_err c.from_residual.result _ c.from_residual.ensures.0)

pub returns-clause-accepted : goal.returns-clause-accepted
returns-clause-accepted g c = λ program budget opening last stands.
    accepted_of program budget opening c.args.history.now c.args.order.now c.events-events.ensures.in_turn c.replay.result
    (IfErr-weaker c.replay.result _ _ (λ e f. f program budget opening stands) (returns-clause-fault g c)) last

pub returns-clause-exact : goal.returns-clause-exact
returns-clause-exact g c = λ program budget opening stands.
    exact_of program budget opening c.args.history.now c.args.order.now c.events-events.ensures.in_turn c.replay.result
    (IfErr-weaker c.replay.result _ _ (λ e f. f program budget opening stands) (returns-clause-fault g c))
    (on_ok_weaker c.replay.result (λ l. let m = l program budget opening stands in (m.0, m.1)) (returns-clause-legal g c))
