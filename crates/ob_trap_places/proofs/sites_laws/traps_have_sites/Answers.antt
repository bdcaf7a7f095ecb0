use Rattle.ob_trap_places.proofs.CallSites.{call_trap, opening_same, opening_trap}
use Rattle.ob_trap_places.proofs.sites_laws.traps_have_sites.Goals as goal

pub returns-clause-call : goal.returns-clause-call
returns-clause-call c = call_trap

pub returns-clause-opening : goal.returns-clause-opening
returns-clause-opening c = opening_same

pub returns-clause-opening_trap : goal.returns-clause-opening_trap
returns-clause-opening_trap c = opening_trap
