use Rattle.std.proofs.Common.{◌∙◌}
use Rattle.ob_store.specs.View.{value_in}
use Rattle.ob_store.proofs.Parts.{selected-none}
use Rattle.ob_store.proofs.value.Value.selected.Goals as goal

pub returns-in-None : goal.returns-in-None
returns-in-None c =
    selected-none (value_in c.loop-position.value.now) c.args.path.now c.loop-position.position-index c.loop-position-test.true c.in-None.ensures
    ∙ c.loop-position.invariant
