use Rattle.std.proofs.Common.{ap, ◌∙◌}
use Rattle.ob_store.specs.View.{value_in, values_in}
use Rattle.ob_mean.proofs.InitialValues.{copies_more}
use Rattle.ob_mean.proofs.begun.copies.Goals as goal

pub loop-made-preserved : goal.loop-made-preserved
loop-made-preserved c =
    ap values_in c.in_ok-push.ensures.items
    ∙ copies_more _ _ c.loop-made.made (value_in c.args.value.now) c.loop-made.invariant c.in_ok-one.ensures
