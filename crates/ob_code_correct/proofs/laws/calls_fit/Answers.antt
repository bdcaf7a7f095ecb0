use Rattle.ob_code_correct.proofs.CodeLaw.{fitting_signed}
use Rattle.ob_code_correct.proofs.laws.calls_fit.Goals as goal

pub returns : goal.returns
returns c = fitting_signed
