use Rattle.std.proofs.Common.{◌+◌, subst, sym}
use Rattle.ob_carry.proofs.Sets.{FoundBelow, found_more, found_all}
use Rattle.ob_carry.proofs.sparing_calls.all_calls.Goals as goal

pub loop-procedure-preserved : goal.loop-procedure-preserved
loop-procedure-preserved c =
    let i = c.loop-procedure.procedure-index in
    subst (FoundBelow (i + 1) c.args.procedures.now) (sym c.in_ok-push.ensures.items)
    (found_more c.args.procedures.now c.loop-procedure.found.items i c.procedure-item.result c.in_ok-calls.calls c.loop-procedure-test.true c.procedure-item.is
    c.loop-procedure.invariant c.in_ok-calls.ensures)

pub returns : goal.returns
returns c = found_all c.args.procedures.now c.loop-procedure.found.items c.loop-procedure.procedure-index c.loop-procedure-test.false c.loop-procedure.invariant
