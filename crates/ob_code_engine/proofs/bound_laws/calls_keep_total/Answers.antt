use Rattle.ob_code_engine.proofs.BoundTotal as Totals
use Rattle.ob_code_engine.proofs.bound_laws.calls_keep_total.Goals as goal

pub returns : goal.returns
returns c = Totals.calls_keep_total
