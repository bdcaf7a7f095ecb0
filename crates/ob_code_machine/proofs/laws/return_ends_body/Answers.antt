use Rattle.ob_code_machine.proofs.Over.{return_step}
use Rattle.ob_code_machine.proofs.laws.return_ends_body.Goals as goal

pub returns : goal.returns
returns c = return_step
