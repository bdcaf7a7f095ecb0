use Rattle.std.proofs.Common.{arith}
use Rattle.ob_store.specs.View.{value_in}
use Rattle.ob_store.proofs.Overwritten.{copies_over_more}
use Rattle.ob_store.proofs.value.overwrite_each.Goals as goal

pub loop-position-preserved : goal.loop-position-preserved
loop-position-preserved c =
    copies_over_more c.loop-position.targets c.loop-position.position c.overwrite_with.new.target (value_in c.args.value.now)
    (omega (arith, c.loop-position.auto.targets)) c.in_ok-overwrite_with.ensures c.loop-position.invariant
