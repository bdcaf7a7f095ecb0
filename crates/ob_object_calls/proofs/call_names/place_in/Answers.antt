use Rattle.std.proofs.Common.{◌≡◌, ◌∙◌, Some, ap, get_or, refl, sym}
use Rattle.std.proofs.lemmas.Option.{slice_get-get_or}
use Rattle.std.specs.List.{Contains}
use Rattle.ob_object_calls.proofs.Items.{none_at_all, none_more}
use Rattle.ob_object_calls.proofs.SameNames.{same_false, same_true}
use Rattle.ob_object_calls.proofs.call_names.place_in.Goals as goal
use Rattle.wf_history.specs.declared.event.CallId.{CallId}

abbrev default : CallId
default = record { process = 0; number = 0 }

pub returns-then-is_same-clause-place : goal.returns-then-is_same-clause-place
returns-then-is_same-clause-place c =
    let i = c.loop-place.place in
    let order = c.args.order.now in
    slice_get-get_or order i default c.loop-place-test.true
    ∙ ap Some (same_true (get_or order i default) c.args.id (sym c.is_same.ensures ∙ c.if-is_same.true))

pub loop-place-preserved : goal.loop-place-preserved
loop-place-preserved c =
    let i = c.loop-place.place in
    let order = c.args.order.now in
    none_more (λ (other : CallId). other ≡ c.args.id) order i (get_or order i default) (slice_get-get_or order i default c.loop-place-test.true) c.loop-place.invariant
    (same_false (get_or order i default) c.args.id (sym c.is_same.ensures ∙ c.if-is_same.false))

pub returns-clause-place : goal.returns-clause-place
returns-clause-place c =
    λ (has : Contains c.args.order.now c.args.id). none_at_all (λ (other : CallId). other ≡ c.args.id) c.args.order.now c.loop-place.place c.loop-place-test.false c.loop-place.invariant c.args.id has refl
