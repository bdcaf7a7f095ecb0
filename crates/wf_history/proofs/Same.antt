-- Values that a test finds equal are equal.
use Rattle.std.proofs.Common.{◌≡◌, refl, ap, Bool, true, false}
use Rattle.std.specs.Bool.{Decides}
use Rattle.std.proofs.lemmas.Bool.Decides.{Decides-int_eq, Decides-like}
use Rattle.ob_interface.specs.contracts.scalar.ScalarPartialEq.TheImpl
use Rattle.ob_interface.specs.declared.scalar.Scalar.{Scalar}
use Rattle.ob_interface.specs.declared.scalar.Scalar.TheVariants.{Int}
use Rattle.ob_interface.specs.declared.scalar.Scalar.TheVariants as Scalars

abbrev pub scalar_eq : Scalar → Scalar → Bool
scalar_eq = TheImpl.eq-value.it

pub scalar_decides : (a b : Scalar) → Decides (scalar_eq a b) (a ≡ b)
scalar_decides (Int a) (Int b) = Decides-like (scalar_eq (Int a) (Int b)) (λ e. ap Int e) (λ (e : Int a ≡ Int b). cc) (Decides-int_eq a b)
scalar_decides (Int a) (Scalars.Bool b) = ((λ e. absurd (cc)), (λ e. absurd (cc)))
scalar_decides (Scalars.Bool a) (Int b) = ((λ e. absurd (cc)), (λ e. absurd (cc)))
scalar_decides (Scalars.Bool true) (Scalars.Bool true) = ((λ e. refl), (λ e. refl))
scalar_decides (Scalars.Bool true) (Scalars.Bool false) = ((λ e. absurd (cc)), (λ e. absurd (cc)))
scalar_decides (Scalars.Bool false) (Scalars.Bool true) = ((λ e. absurd (cc)), (λ e. absurd (cc)))
scalar_decides (Scalars.Bool false) (Scalars.Bool false) = ((λ e. refl), (λ e. refl))
