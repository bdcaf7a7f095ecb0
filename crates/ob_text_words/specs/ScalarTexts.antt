-- The texts that scalars are printed as.
use Rattle.std.specs.Prelude.{Bool, true, false, List, ℕ, codes}
use Rattle.std.specs.Fmt.{signed_decimal}
use Rattle.ob_interface.specs.declared.scalar.Scalar.{Scalar}
use Rattle.ob_interface.specs.declared.scalar.Scalar.TheVariants as Scalars

abbrev pub truth_text : Bool → List ℕ
truth_text true = codes "TRUE"
truth_text false = codes "FALSE"

-- a number in decimal digits with a `-` below 0, TRUE or FALSE
abbrev pub scalar_text : Scalar → List ℕ
scalar_text (Scalars.Int z) = signed_decimal z
scalar_text (Scalars.Bool b) = truth_text b
