-- One call more from the end: its End may be the least, and it may begin after one.
use Rattle.std.proofs.Common.{◌≡◌, ℕ, subst, sym, ◌+◌, ◌-◌, ◌^◌, ◌<◌, length, get_or, arith, Option}
use Rattle.std.proofs.lemmas.Option.{slice_get-get_or}
use Rattle.ob_object_run.proofs.Early.{IsLeast, IsFirstFrom, first_none, least_none, least_same, least_more, first_here, first_same}
use Rattle.ob_object_run.proofs.order_checker.first_too_early.Goals as goal
use Rattle.ob_object_run.proofs.order_checker.first_too_early.Goals.{then-least-x, else-least-x}
use Rattle.wf_history.specs.declared.event.CallId.{CallId}
use Rattle.ob_object_run.specs.PlacedCalls.{placed_all, placed_at}
use Rattle.std.proofs.lemmas.List.{length-map}
use Rattle.ob_object_run.proofs.Placing.{call_of_list}

abbrev default : CallId
default = record { process = 0; number = 0 }

pub loop-k-preserved-in-Some : goal.loop-k-preserved-in-Some
loop-k-preserved-in-Some c =
    let order = c.args.order.now in
    let placed = placed_all c.args.places.now order in
    let j = c.loop-k.k - 1 in
    let x = c.placed-x.result in
    let lt : j < length order = omega arith in
    let here = (call_of_list c.args.places.now order j (get_or order j default) x (slice_get-get_or order j default lt) c.placed-x.ensures).0 in
    let step : c.loop-k.k ≡ j + 1 = omega arith in
    let least = subst (λ (n : ℕ). IsLeast placed n c.loop-k.least) step c.loop-k.invariant.0 in
    let first = subst (λ (n : ℕ). IsFirstFrom placed n c.loop-k.first) step c.loop-k.invariant.1 in
    let fits : x.begin < 2 ^ 64 = omega arith in (
      subst (λ (n : ℕ). IsLeast placed j n) (sym c.min-least.ensures) (least_more placed j x here c.loop-k.least c.in-Some.end c.in-Some.is least),
      elim c.if-least-x.branch [
        | then-least-x w ↦ subst (λ (o : Option CallId). IsFirstFrom placed j o) (sym w.first-is) (first_here placed j x here c.loop-k.least fits least w.if-least-x.true)
        | else-least-x w ↦ subst (λ (o : Option CallId). IsFirstFrom placed j o) (sym w.first-is) (first_same placed j x here c.loop-k.least c.loop-k.first least w.if-least-x.false first)
      ],
    )

pub loop-k-preserved : goal.loop-k-preserved
loop-k-preserved c =
    let order = c.args.order.now in
    let placed = placed_all c.args.places.now order in
    let j = c.loop-k.k - 1 in
    let x = c.placed-x.result in
    let lt : j < length order = omega arith in
    let here = (call_of_list c.args.places.now order j (get_or order j default) x (slice_get-get_or order j default lt) c.placed-x.ensures).0 in
    let step : c.loop-k.k ≡ j + 1 = omega arith in
    let least = subst (λ (n : ℕ). IsLeast placed n c.loop-k.least) step c.loop-k.invariant.0 in
    let first = subst (λ (n : ℕ). IsFirstFrom placed n c.loop-k.first) step c.loop-k.invariant.1 in
    let fits : x.begin < 2 ^ 64 = omega arith in (
      least_same placed j x here c.loop-k.least c.in_default.is least,
      elim c.if-least-x.branch [
        | then-least-x w ↦ subst (λ (o : Option CallId). IsFirstFrom placed j o) (sym w.first-is) (first_here placed j x here c.loop-k.least fits least w.if-least-x.true)
        | else-least-x w ↦ subst (λ (o : Option CallId). IsFirstFrom placed j o) (sym w.first-is) (first_same placed j x here c.loop-k.least c.loop-k.first least w.if-least-x.false first)
      ],
    )

pub loop-k-init : goal.loop-k-init
loop-k-init c =
    let all = length-map c.args.order.now (placed_at c.args.places.now) in
    (least_none _ _ _ (omega (arith, all)) (omega arith), first_none _ _ (omega (arith, all)))
