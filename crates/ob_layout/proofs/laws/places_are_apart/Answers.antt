use Rattle.ob_code_correct.proofs.Memory.{parts_apart}
use Rattle.ob_layout.proofs.laws.places_are_apart.Goals as goal

pub returns : goal.returns
returns c = parts_apart
