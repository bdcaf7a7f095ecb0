use Rattle.ob_code_correct.proofs.CodeLaw as Laws
use Rattle.ob_code_correct.proofs.laws.bodies_end.Goals as goal

pub returns-clause-bodies : goal.returns-clause-bodies
returns-clause-bodies c = Laws.bodies_end

pub returns-clause-scripts : goal.returns-clause-scripts
returns-clause-scripts c = Laws.scripts_end
