use Rattle.std.proofs.Common.{refl, map}
use Rattle.ob_code_scheme.specs.Scheme as Scheme
use Rattle.ob_checked.specs.View.{actual_of}
use Rattle.ob_code.specs.Scoped.{own_in}
use Rattle.ob_code.proofs.Sums.{sum_ends}
use Rattle.ob_code.proofs.sizes.actuals_size.Goals as goal

pub returns : goal.returns
returns c =
    sum_ends (λ xs. Scheme.actuals_size (own_in c.args.scopes.now) (map actual_of xs)) c.args.actuals.now c.loop-actual.actual-index c.loop-actual.sum _ refl c.loop-actual-test.false c.loop-actual.invariant
