use Rattle.ob_object_calls.proofs.WithoutApplied.{runs_verified}
use Rattle.ob_object_calls.proofs.laws.legal_runs_are_verified.Goals as goal

pub returns : goal.returns
returns c = runs_verified
