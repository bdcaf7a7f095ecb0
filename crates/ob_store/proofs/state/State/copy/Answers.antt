use Rattle.std.proofs.Common.{◌∙◌}
use Rattle.ob_store.proofs.Stored.{same_variables}
use Rattle.ob_store.proofs.state.State.copy.Goals as goal

pub returns : goal.returns
returns c = c.new.ensures ∙ same_variables c.in_ok-copy_all.field-0.items c.values.result.now c.in_ok-copy_all.ensures ∙ c.values.ensures
