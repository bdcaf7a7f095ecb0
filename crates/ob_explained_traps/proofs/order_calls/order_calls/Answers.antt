use Rattle.std.proofs.Common.{◌≡◌, ◌∙◌, ◌<◌, ◌+◌, ◌++◌, [], ◌∷◌, List, add-one, ap, arith, get_or, length, map, subst, sym, take}
use Rattle.std.proofs.lemmas.List.{map-append, take_all}
use Rattle.std.proofs.lemmas.List.Elements.{Contains-get_or}
use Rattle.std.proofs.lemmas.Option.{slice_get-get_or}
use Rattle.std.specs.HashMap as hash
use Rattle.ob_explained_traps.proofs.Begun.{begun_push}
use Rattle.ob_explained_traps.specs.RecordTraps.{AreBegun}
use Rattle.ob_interface.specs.Call.{ObjectCall}
use Rattle.ob_mean.specs.View.{call_of}
use Rattle.ob_object_calls.proofs.Noted.{begin_at, begun_here, never_begun}
use Rattle.ob_object_run.specs.Places.{same_id}
use Rattle.wf_history.proofs.Positions.{take_next}
use Rattle.wf_history.specs.Legal.{HasBegun}
use Rattle.wf_history.specs.View.{event_of, seen_call}
use Rattle.wf_history.specs.declared.event.CallId.{CallId}
use Rattle.ob_explained_traps.proofs.order_calls.order_calls.Goals as goal

abbrev default : CallId
default = record { process = 0; number = 0 }

pub returns-in_default-clause-fault : goal.returns-in_default-clause-fault
returns-in_default-clause-fault c =
    let i = c.loop-id.id-index in
    let order = c.args.order.now in
    let lt : i < length order = omega arith in (
      Contains-get_or order i default lt,
      never_begun (map event_of c.args.events.now) (hash.get same_id c.in_ok-begins.begins) c.in_ok-begins.ensures (get_or order i default) c.in_default.ensures.value,
    )

pub call_at-requires : goal.call_at-requires
call_at-requires c =
    let id = get_or c.args.order.now c.loop-id.id-index default in
    (id, begin_at (map event_of c.args.events.now) (hash.get same_id c.in_ok-begins.begins) c.in_ok-begins.ensures id c.in-Some.begin.now c.in-Some.ensures.value)

pub loop-id-preserved : goal.loop-id-preserved
loop-id-preserved c =
    let i = c.loop-id.id-index in
    let order = c.args.order.now in
    let history = map event_of c.args.events.now in
    let lt : i < length order = omega arith in
    let id = get_or order i default in
    let call = seen_call c.call_at.result in
    let at = begin_at history (hash.get same_id c.in_ok-begins.begins) c.in_ok-begins.ensures id c.in-Some.begin.now c.in-Some.ensures.value in
    let begun : HasBegun history id call = begun_here history id c.call_at.ensures.0 c.in-Some.begin.now call at c.call_at.ensures.1 in
    let made : HasBegun history id (call_of c.in_ok-call.call) = subst (λ (x : ObjectCall). HasBegun history id x) (sym c.in_ok-call.ensures) begun in
    let so_far = map call_of c.loop-id.calls.items in
    let taken : take (i + 1) order ≡ take i order ++ id ∷ [] = rw add-one (take_next order i id (slice_get-get_or order i default lt)) in
    subst (λ (xs : List ObjectCall). AreBegun history (take (i + 1) order) xs)
    (sym (ap (map call_of) c.in_ok-push.ensures.items ∙ map-append call_of c.loop-id.calls.items (c.in_ok-call.call ∷ [])))
    (subst (λ (ids : List CallId). AreBegun history ids (so_far ++ call_of c.in_ok-call.call ∷ [])) (sym taken)
    (begun_push history (take i order) so_far id (call_of c.in_ok-call.call) c.loop-id.invariant made))

pub returns-clause-calls : goal.returns-clause-calls
returns-clause-calls c =
    let order = c.args.order.now in
    subst (λ (ids : List CallId). AreBegun (map event_of c.args.events.now) ids (map call_of c.loop-id.calls.items)) (take_all c.loop-id.id-index order (omega arith)) c.loop-id.invariant
