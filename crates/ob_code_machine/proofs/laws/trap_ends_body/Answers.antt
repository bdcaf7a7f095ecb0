use Rattle.ob_code_machine.proofs.Over.{trap_step}
use Rattle.ob_code_machine.proofs.laws.trap_ends_body.Goals as goal

pub returns : goal.returns
returns c = trap_step
