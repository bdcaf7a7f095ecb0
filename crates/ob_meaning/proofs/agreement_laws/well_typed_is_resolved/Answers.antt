use Rattle.ob_meaning.proofs.ResolvedModules.{resolved}
use Rattle.ob_meaning.proofs.agreement_laws.well_typed_is_resolved.Goals as goal

pub returns : goal.returns
returns c = resolved
