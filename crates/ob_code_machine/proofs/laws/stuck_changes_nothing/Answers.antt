use Rattle.ob_code_machine.proofs.Over.{stuck_step}
use Rattle.ob_code_machine.proofs.laws.stuck_changes_nothing.Goals as goal

pub returns : goal.returns
returns c = stuck_step
