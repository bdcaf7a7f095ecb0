use Rattle.ob_code_machine.proofs.Within.{stack_within}
use Rattle.ob_code_machine.proofs.laws.stack_stays_within.Goals as goal

pub returns : goal.returns
returns c = stack_within
