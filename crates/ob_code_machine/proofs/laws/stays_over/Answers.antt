use Rattle.ob_code_machine.proofs.Over.{over_stays}
use Rattle.ob_code_machine.proofs.laws.stays_over.Goals as goal

pub returns : goal.returns
returns c = over_stays
