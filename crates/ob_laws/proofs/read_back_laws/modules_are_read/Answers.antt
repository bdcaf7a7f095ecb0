use Rattle.ob_laws.proofs.ReadBack.{modules_are_read}
use Rattle.ob_laws.proofs.read_back_laws.modules_are_read.Goals as goal

pub returns : goal.returns
returns c = modules_are_read
