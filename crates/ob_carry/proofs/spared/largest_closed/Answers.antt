use Rattle.std.proofs.Common.{subst, sym}
use Rattle.ob_carry.specs.ReadOnlyExports.{IsClosed}
use Rattle.ob_carry.proofs.Sets.{nothing_closed}
use Rattle.ob_carry.proofs.spared.largest_closed.Goals as goal

pub returns : goal.returns
returns c = subst (IsClosed c.args.found.now) (sym c.new.ensures.items) (nothing_closed c.args.found.now)
