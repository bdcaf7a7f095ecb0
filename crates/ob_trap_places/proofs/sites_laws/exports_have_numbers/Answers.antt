use Rattle.ob_trap_places.proofs.CallSites.{export_here}
use Rattle.ob_trap_places.proofs.sites_laws.exports_have_numbers.Goals as goal

pub returns : goal.returns
returns c = export_here
