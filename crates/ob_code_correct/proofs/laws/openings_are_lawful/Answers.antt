use Rattle.ob_code_correct.proofs.CodeLaw.{openings_lawful}
use Rattle.ob_code_correct.proofs.laws.openings_are_lawful.Goals as goal

pub returns : goal.returns
returns c = openings_lawful
