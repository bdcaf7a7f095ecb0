use Rattle.ob_code_words.proofs.Division.{divides}
use Rattle.ob_code_words.proofs.laws.divides_down.Goals as goal

pub returns : goal.returns
returns c = divides
