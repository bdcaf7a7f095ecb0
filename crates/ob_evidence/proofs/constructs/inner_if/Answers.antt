use Rattle.ob_evidence.proofs.Shown.{is_inner}
use Rattle.ob_evidence.proofs.constructs.inner_if.Goals as goal

pub returns-else-is_unit : goal.returns-else-is_unit
returns-else-is_unit c = is_inner c.args.before.now c.args.opening c.else_if.result c.else_if.ensures
