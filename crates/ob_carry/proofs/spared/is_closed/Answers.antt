use Rattle.std.proofs.Common.{◌+◌, ◌∙◌, subst, sym}
use Rattle.ob_carry.proofs.Sets.{ClosedBelow, closed_none, closed_more, closed_all}
use Rattle.ob_carry.proofs.spared.is_closed.Goals.{then-has_to_go, else-has_to_go}
use Rattle.ob_carry.proofs.spared.is_closed.Goals as goal

pub loop-number-init : goal.loop-number-init
loop-number-init c = λ so. closed_none c.args.found.now c.args.told.now

pub loop-number-preserved : goal.loop-number-preserved
loop-number-preserved c = λ so.
    let n = c.loop-number.number in
    let found = c.args.found.now in
    elim c.if-has_to_go.branch [
      | then-has_to_go w ↦ absurd (let closed = w.closed-is in cc)
      | else-has_to_go w ↦
          subst (ClosedBelow (n + 1) found) (sym w.told-is)
          (closed_more found c.loop-number.told n c.index-found-number.result c.loop-number-test.true c.index-found-number.is (c.loop-number.invariant (sym w.closed-is ∙ so))
          (c.has_to_go.ensures.stays w.if-has_to_go.false))
    ]

pub returns : goal.returns
returns c = λ so. closed_all c.args.found.now c.loop-number.told c.loop-number.number c.loop-number-test.false (c.loop-number.invariant so)
