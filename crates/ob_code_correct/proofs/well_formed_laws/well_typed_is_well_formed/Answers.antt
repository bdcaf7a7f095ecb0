use Rattle.ob_code_correct.proofs.Programs.{well_formed}
use Rattle.ob_code_correct.proofs.well_formed_laws.well_typed_is_well_formed.Goals as goal

pub returns : goal.returns
returns c = well_formed
