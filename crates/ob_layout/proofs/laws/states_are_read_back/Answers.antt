use Rattle.ob_code_correct.proofs.Positions.{decodes_encoded}
use Rattle.ob_layout.proofs.laws.states_are_read_back.Goals as goal

pub returns : goal.returns
returns c = decodes_encoded
