use Rattle.std.proofs.Common.{◌∙◌}
use Rattle.ob_rules.proofs.Designated.{holds_simple, holds_none}
use Rattle.ob_rules.proofs.targets.holds.Goals as goal

pub returns-in-Some : goal.returns-in-Some
returns-in-Some c = c.same_scalar_type.ensures ∙ holds_simple c.in-Some.simple c.args.scalar _ c.in-Some.ensures

pub returns-in-None : goal.returns-in-None
returns-in-None c = holds_none c.args.scalar _ c.in-None.ensures
