use Rattle.ob_code_machine.proofs.Sizes.{steps_keep_sizes}
use Rattle.ob_code_machine.proofs.laws.steps_keep_sizes.Goals as goal

pub returns : goal.returns
returns c = steps_keep_sizes
