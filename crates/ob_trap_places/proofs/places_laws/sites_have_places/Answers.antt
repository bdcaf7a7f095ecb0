use Rattle.ob_trap_places.proofs.PlacedCalls.{call_placed, opening_placed}
use Rattle.ob_trap_places.proofs.places_laws.sites_have_places.Goals as goal

pub returns-clause-call : goal.returns-clause-call
returns-clause-call c = call_placed

pub returns-clause-opening : goal.returns-clause-opening
returns-clause-opening c = opening_placed
