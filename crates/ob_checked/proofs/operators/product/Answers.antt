use Rattle.std.proofs.Common.{◌≤◌, ◌*ℤ◌, ℤ, pos, negsuc, arith, w32, w64, lit<, FitsSigned}
use Rattle.std.specs.Prelude.{unsigned_abs}
use Rattle.std.proofs.lemmas.Int.{ints, to_z-of_z, fits_signed_mul}
use Rattle.ob_checked.proofs.operators.product.Goals as goal

abs_bound : (z : ℤ) → FitsSigned w32 z → unsigned_abs z ≤ 2147483648
abs_bound (pos n) h = omega (arith, h.sfits)
abs_bound (negsuc n) h = omega (arith, h.sfits)

pub returns : goal.returns
returns c =
    let f : FitsSigned w64 (c.args.left *ℤ c.args.right) =
    fits_signed_mul w64 c.args.left c.args.right 2147483648 2147483648 (abs_bound c.args.left c.ranges.left) (abs_bound c.args.right c.ranges.right) (lit< tt) in
    grind (arith, ints, to_z-of_z)
