use Rattle.ob_trap_places.proofs.CallSites.{call_explained, opening_explained}
use Rattle.ob_trap_places.proofs.sites_laws.causes_explain.Goals as goal

pub returns-clause-call : goal.returns-clause-call
returns-clause-call c = call_explained

pub returns-clause-opening : goal.returns-clause-opening
returns-clause-opening c = opening_explained
