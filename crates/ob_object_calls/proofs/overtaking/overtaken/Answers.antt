use Rattle.std.proofs.Common.{◌∙◌, ◌↔◌, ◌+◌, ℕ, List, add-one, ap, drop, suc, subst, sym, take}
use Rattle.std.proofs.lemmas.List.{take-map, take_rest}
use Rattle.std.specs.HashSet as bag
use Rattle.std.specs.Prelude.{Contains, IsTrue}
use Rattle.ob_interface.specs.Call.{ObjectCall, Reply}
use Rattle.ob_object_run.specs.Places.{BeginsAt, same_id}
use Rattle.ob_object_calls.proofs.Overtaken.{ended_of, overtaken_found, unbegun}
use Rattle.ob_object_calls.proofs.overtaking.overtaken.Goals as goal
use Rattle.ob_object_calls.specs.Early.{IsEnded}
use Rattle.ob_object_calls.specs.MadeCalls.{NeverBegan}
use Rattle.wf_history.specs.History.{Event}
use Rattle.wf_history.specs.View.{event_of}
use Rattle.wf_history.specs.declared.event.CallId.{CallId}

pub returns-in_default-begin_of : goal.returns-in_default-begin_of
returns-in_default-begin_of c =
    unbegun c.args.history.now c.args.order.now c.args.id
    (subst (λ (h : List (Event ObjectCall Reply)). NeverBegan h c.args.id) c.events-events.ensures.value c.in_default-begin_of.ensures.place)

pub returns : goal.returns
returns c =
    let history = c.args.history.now in
    let order = c.args.order.now in
    let place = c.in-Some.place in
    let begin = c.in-Some-begin_of.begin in
    let value = c.events-events.ensures.value in
    let behind = take_rest order (place + 1) in
    let set = c.in_ok-behind.ensures in
    overtaken_found history order c.args.id place begin c.in-Some.ensures.place
    (subst (λ (h : List (Event ObjectCall Reply)). BeginsAt h c.args.id begin) value c.in-Some-begin_of.ensures.place) c.events-events.ensures.in_turn c.first_ended.result
    (ended_of (take begin history) (λ (q : CallId). IsTrue (bag.contains same_id c.in_ok-behind.behind q)) (Contains (drop (suc place) order))
    (λ q. subst (λ (ids : List CallId). IsTrue (bag.contains same_id c.in_ok-behind.behind q) ↔ Contains ids q) (behind ∙ ap (λ (n : ℕ). drop n order) (add-one place)) (set q))
    c.first_ended.result
    (subst (λ (h : List (Event ObjectCall Reply)). IsEnded h (λ (q : CallId). IsTrue (bag.contains same_id c.in_ok-behind.behind q)) c.first_ended.result)
    (sym (take-map event_of begin c.events-events.result.now) ∙ ap (take begin) value) c.first_ended.ensures))
