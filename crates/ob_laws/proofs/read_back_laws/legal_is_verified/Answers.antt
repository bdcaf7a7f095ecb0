use Rattle.ob_laws.proofs.ReadBack.{legal_is_verified}
use Rattle.ob_laws.proofs.read_back_laws.legal_is_verified.Goals as goal

pub returns : goal.returns
returns c = legal_is_verified
