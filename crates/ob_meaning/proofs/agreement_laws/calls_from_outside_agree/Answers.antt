use Rattle.ob_meaning.proofs.SameCalls.{call_same}
use Rattle.ob_meaning.proofs.agreement_laws.calls_from_outside_agree.Goals as goal

pub returns : goal.returns
returns c = call_same
