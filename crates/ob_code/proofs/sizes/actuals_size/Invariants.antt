use Rattle.std.proofs.Common.{◌≡◌, ◌+◌, min, max, map, drop}
use Rattle.ob_code_scheme.specs.Scheme as Scheme
use Rattle.ob_checked.specs.View.{actual_of}
use Rattle.ob_code.specs.Scoped.{own_in}
use Rattle.ob_code.proofs.sizes.actuals_size.Given as goal

-- the sum so far, and those of the actuals that are left
abbrev pub invariant-loop-actual : goal.invariant-loop-actual
invariant-loop-actual l =
    max l.sum (min (l.sum + Scheme.actuals_size (own_in l.scopes) (map actual_of (drop l.actual-index l.actuals))) 18446744073709551615)
    ≡ min (Scheme.actuals_size (own_in l.scopes) (map actual_of l.actuals)) 18446744073709551615
