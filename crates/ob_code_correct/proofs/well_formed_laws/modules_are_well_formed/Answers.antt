use Rattle.ob_code_correct.proofs.Programs.{module_formed}
use Rattle.ob_code_correct.proofs.well_formed_laws.modules_are_well_formed.Goals as goal

pub returns : goal.returns
returns c = module_formed
