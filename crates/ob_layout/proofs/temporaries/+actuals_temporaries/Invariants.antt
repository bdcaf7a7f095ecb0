use Rattle.std.proofs.Common.{length}
use Rattle.ob_layout.proofs.temporaries.+actuals_temporaries.Given as goal

abbrev pub decreases-actuals_temporaries : goal.decreases-actuals_temporaries
decreases-actuals_temporaries l = length l.actuals.now
