-- A number for each scalar, no two of which have the same.
use Rattle.std.specs.Prelude.{ℕ, pos, negsuc, ◌+◌, ◌*◌, if◌then◌else◌}
use Rattle.ob_interface.specs.declared.scalar.Scalar.{Scalar}
use Rattle.ob_interface.specs.declared.scalar.Scalar.TheVariants.{Int, Bool as Truth}

-- its rest modulo 4 tells an INTEGER that is not negative, 0, a negative one, 1, and a BOOLEAN, 2
abbrev pub label_of : Scalar → ℕ
label_of (Int (pos n)) = 4 * n
label_of (Int (negsuc n)) = 4 * n + 1
label_of (Truth b) = if b then 6 else 2
