use Rattle.ob_laws.proofs.Found.{found_verified}
use Rattle.ob_laws.proofs.search_laws.found_is_verified.Goals as goal

pub returns : goal.returns
returns c = found_verified c.found_is_writable.ensures c.legal_is_verified.ensures
