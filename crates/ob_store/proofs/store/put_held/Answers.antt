use Rattle.std.proofs.Common.{arith}
use Rattle.ob_store.specs.View.{value_in}
use Rattle.ob_store.proofs.Stored.{with_held-set, with_held-beyond}
use Rattle.ob_store.proofs.store.put_held.Goals as goal

pub returns-then-position-activation : goal.returns-then-position-activation
returns-then-position-activation c =
    with_held-set c.args.activation.now c.args.position c.index-activation-position.result _ c.args.path.now (value_in c.args.new) (omega arith)
    c.put.ensures

pub returns-else-position-activation : goal.returns-else-position-activation
returns-else-position-activation c =
    with_held-beyond c.args.activation.now c.args.position c.args.path.now (value_in c.args.new) (omega arith)
