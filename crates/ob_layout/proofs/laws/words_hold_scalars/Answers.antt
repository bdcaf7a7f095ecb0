use Rattle.ob_layout.proofs.Scalars.{words_hold_scalars}
use Rattle.ob_layout.proofs.laws.words_hold_scalars.Goals as goal

pub returns : goal.returns
returns c = words_hold_scalars
