use Rattle.ob_code_correct.proofs.Positions.{encodes_decoded}
use Rattle.ob_layout.proofs.laws.words_are_of_one_state.Goals as goal

pub returns : goal.returns
returns c = encodes_decoded
