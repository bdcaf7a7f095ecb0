use Rattle.std.proofs.Common.{subst}
use Rattle.ob_carry.specs.ReadOnlyExports.{IsClosed}
use Rattle.ob_carry.proofs.Sets.{all_keep, where_ok}
use Rattle.ob_carry.proofs.spared.spared_procedures.Goals as goal

pub returns : goal.returns
returns c =
    where_ok _ _ c.largest_closed.result
    (λ told closed. all_keep c.args.procedures.now c.in_ok-found.found.items told.items c.in_ok-found.ensures (subst (λ found. IsClosed found told.items) c.as_slice.ensures.value closed))
    c.largest_closed.ensures
