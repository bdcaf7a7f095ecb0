use Rattle.ob_meaning.proofs.SameStatements.{opening_same}
use Rattle.ob_meaning.proofs.agreement_laws.openings_agree.Goals as goal

pub returns : goal.returns
returns c = opening_same
