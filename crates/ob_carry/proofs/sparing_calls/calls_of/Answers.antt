use Rattle.std.proofs.Common.{subst}
use Rattle.ob_checked.specs.View.{statements_in}
use Rattle.ob_carry.specs.ReadOnly.{AllSpareModule}
use Rattle.ob_carry.proofs.sparing_calls.calls_of.Goals as goal

pub returns-then-spares : goal.returns-then-spares
returns-then-spares c = λ quiet h.
    subst (λ ss. AllSpareModule quiet (statements_in ss)) c.as_slice.ensures.value ((c.in_ok-spares.ensures quiet h).1 c.if-spares.true)
