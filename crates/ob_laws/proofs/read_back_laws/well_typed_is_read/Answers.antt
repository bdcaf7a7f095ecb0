use Rattle.ob_laws.proofs.ReadBack.{well_typed_is_read}
use Rattle.ob_laws.proofs.read_back_laws.well_typed_is_read.Goals as goal

pub returns : goal.returns
returns c = well_typed_is_read
