use Rattle.ob_meaning.proofs.ResolvedModules.{exports_are_seen}
use Rattle.ob_meaning.proofs.agreement_laws.exports_are_those_of_the_text.Goals as goal

pub returns : goal.returns
returns c = exports_are_seen
