-- Instructions that a test finds equal are equal.
use Rattle.std.proofs.Common.{arith, ◌≡◌, refl, ap, ℕ, ℤ, Bool, true, nat_eq, ◌&&◌}
use Rattle.std.specs.Bool.{Decides}
use Rattle.std.specs.Ordering.{int_eq}
use Rattle.std.proofs.lemmas.Bool.Decides.{nat_tests, Decides-int_eq}
use Rattle.ob_code_words.specs.contracts.instr.InstrPartialEq.TheImpl
use Rattle.ob_code_words.specs.contracts.instr.Instr.{enum}
use Rattle.ob_code_words.specs.declared.instr.Instr.{Instr}
use Rattle.ob_code_engine.proofs.Choices.{enum_decided}

abbrev Nothing : Type 0
Nothing = Unit {0}

bare : (x y : Nothing) → Decides true (x ≡ y)
bare x y = (λ t. refl, λ e. refl)

number : (x y : ℕ × Nothing) → Decides (nat_eq x.0 y.0) (x ≡ y)
number x y = (λ t. let same : x.0 ≡ y.0 = grind (arith, nat_tests) in ap (λ (k : ℕ). (k, tt)) same, λ e. let same : x.0 ≡ y.0 = ap (λ (z : ℕ × Nothing). z.0) e in grind (arith, nat_tests))

whole : (x y : ℤ × Nothing) → Decides (int_eq x.0 y.0) (x ≡ y)
whole x y = let one = Decides-int_eq x.0 y.0 in (λ t. ap (λ (k : ℤ). (k, tt)) (one.0 t), λ e. one.1 (ap (λ (z : ℤ × Nothing). z.0) e))

numbers : (x y : ℕ × (ℕ × Nothing)) → Decides (nat_eq x.0 y.0 && nat_eq x.1.0 y.1.0) (x ≡ y)
numbers x y = (
  λ t.
      let one : x.0 ≡ y.0 = grind (arith, nat_tests) in
      let two : x.1.0 ≡ y.1.0 = grind (arith, nat_tests) in
      rw (one, two) refl,
  λ e.
      let one : x.0 ≡ y.0 = ap (λ (z : ℕ × (ℕ × Nothing)). z.0) e in
      let two : x.1.0 ≡ y.1.0 = ap (λ (z : ℕ × (ℕ × Nothing)). z.1.0) e in
      grind (arith, nat_tests),
)

abbrev pub instr_eq : Instr → Instr → Bool
instr_eq = TheImpl.eq-value.it

pub instr_decides : (a b : Instr) → Decides (instr_eq a b) (a ≡ b)
instr_decides = enum_decided enum _ instr_eq (λ a b. refl) (whole, (number, (number, (number, (numbers, (bare, (bare, (bare, (bare, (bare, (bare, (bare, (bare, (bare, (bare, (bare, (bare, (bare, (bare, (bare, (number, (number, (number, (number, (numbers, (number, (bare, (bare, tt))))))))))))))))))))))))))))
