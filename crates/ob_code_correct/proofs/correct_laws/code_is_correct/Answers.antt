use Rattle.ob_code_correct.proofs.Law.{code_correct}
use Rattle.ob_code_correct.proofs.correct_laws.code_is_correct.Goals as goal

pub returns : goal.returns
returns c = code_correct
