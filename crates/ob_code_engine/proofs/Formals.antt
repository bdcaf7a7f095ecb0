-- Modes and types that a test finds equal are equal.
use Rattle.std.proofs.Common.{◌≡◌, refl, ap, Bool, true, false}
use Rattle.std.specs.Bool.{Decides}
use Rattle.ob_interface.specs.contracts.export.FormalPartialEq.TheImpl
use Rattle.ob_interface.specs.declared.export.Formal.{Formal}
use Rattle.ob_interface.specs.declared.scalar.ScalarType.{ScalarType}
use Rattle.ob_interface.specs.declared.scalar.ScalarType.TheVariants.{Integer, Boolean}

abbrev pub formal_eq : Formal → Formal → Bool
formal_eq = TheImpl.eq-value.it

abbrev formal : Bool → ScalarType → Formal
formal v t = record { is_var = v; scalar_type = t }

-- a test that fails, of modes or of types that differ
modes_apart : (v w : Bool) (s t : ScalarType) → (v ≡ w → ⊥) → Decides false (formal v s ≡ formal w t)
modes_apart v w s t apart = (λ e. absurd (cc), λ e. absurd (apart (ap (λ (f : Formal). f.is_var) e)))

types_apart : (v w : Bool) (s t : ScalarType) → (s ≡ t → ⊥) → Decides false (formal v s ≡ formal w t)
types_apart v w s t apart = (λ e. absurd (cc), λ e. absurd (apart (ap (λ (f : Formal). f.scalar_type) e)))

both : (v w : Bool) (s t : ScalarType) → Decides (formal_eq (formal v s) (formal w t)) (formal v s ≡ formal w t)
both true true Integer Integer = (λ e. refl, λ e. refl)
both true true Boolean Boolean = (λ e. refl, λ e. refl)
both true true Integer Boolean = types_apart true true Integer Boolean (λ e. cc)
both true true Boolean Integer = types_apart true true Boolean Integer (λ e. cc)
both false false Integer Integer = (λ e. refl, λ e. refl)
both false false Boolean Boolean = (λ e. refl, λ e. refl)
both false false Integer Boolean = types_apart false false Integer Boolean (λ e. cc)
both false false Boolean Integer = types_apart false false Boolean Integer (λ e. cc)
both true false s t = modes_apart true false s t (λ e. cc)
both false true s t = modes_apart false true s t (λ e. cc)

pub formal_decides : (a b : Formal) → Decides (formal_eq a b) (a ≡ b)
formal_decides a b = both a.is_var b.is_var a.scalar_type b.scalar_type
