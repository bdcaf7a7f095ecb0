use Rattle.ob_laws.proofs.Found.{found_writable}
use Rattle.ob_laws.proofs.search_laws.found_is_writable.Goals as goal

pub returns : goal.returns
returns c = found_writable c.modules_are_well_formed.ensures c.openings_are_states.ensures
