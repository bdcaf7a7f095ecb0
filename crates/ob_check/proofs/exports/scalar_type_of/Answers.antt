use Rattle.ob_check.proofs.Exported.{scalar_is, no_scalar}
use Rattle.ob_check.proofs.exports.scalar_type_of.Goals as goal

pub returns-in-Some : goal.returns-in-Some
returns-in-Some c = scalar_is _ _ c.in-Some.ensures

pub returns-in-None : goal.returns-in-None
returns-in-None c = no_scalar _ c.in-None.ensures
