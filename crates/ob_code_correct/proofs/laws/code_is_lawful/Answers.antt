use Rattle.ob_code_correct.proofs.CodeLaw.{code_lawful}
use Rattle.ob_code_correct.proofs.laws.code_is_lawful.Goals as goal

pub returns : goal.returns
returns c = code_lawful
