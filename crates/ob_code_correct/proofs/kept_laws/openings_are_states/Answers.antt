use Rattle.ob_code_correct.proofs.KeptStatements as Kept
use Rattle.ob_code_correct.proofs.kept_laws.openings_are_states.Goals as goal

pub returns : goal.returns
returns c = Kept.openings_are_states
