-- INTEGERs as words spell them.
use Rattle.std.proofs.Common.{◌≡◌, ℕ, ◌≤◌, ℤ, pos, neg_ℤ, ◌-ℤ◌, ◌<◌, ◌^◌, zero, suc, w64, to_z, of_z, ◌∷◌, Result, Ok, Err, MatchOption, ◌⊎◌, inl, inr, refl, sym, ◌∙◌, ap, arith, w32}
use Rattle.std.proofs.lemmas.Bool.{false≢true}
use Rattle.std.proofs.lemmas.Int.{ints}
use Rattle.std.specs.Result.{OkIff, result_ok}
use Rattle.ob_scan.specs.Spelling.{number_value}
use Rattle.ob_text_words.specs.Words.{Word, IsDigits, IsInteger, positive, negative}
use mir.Val.{SFits}

-- what a word that says an INTEGER is
IsInteger-cases : (word : Word) (z : ℤ) → IsInteger word z →
    ((n : ℕ) × IsDigits 10 word n × (n ≤ 2147483647) × (z ≡ pos n))
    ⊎ ((digits : Word) × (n : ℕ) × (word ≡ 45 ∷ digits) × IsDigits 10 digits n × (n ≤ 2147483648) × (z ≡ neg_ℤ (pos n)))
IsInteger-cases word z (positive {n = n} d h) = inl (n, d, h, refl)
IsInteger-cases word z (negative {word = digits} {n = n} d h) = inr (digits, n, refl, d, h, refl)

-- a digit is no `-`
no_sign : (digits : Word) (n : ℕ) → IsDigits 10 (45 ∷ digits) n → ⊥
no_sign digits n d = false≢true d.digits

SFits-positive : (n : ℕ) → SFits w32 (pos n) → n ≤ 2147483647
SFits-positive n f = omega (arith, ints)

positive-SFits : (n : ℕ) → n ≤ 2147483647 → SFits w32 (pos n)
positive-SFits n h = omega (arith, ints)

SFits-negative : (n : ℕ) → SFits w32 (neg_ℤ (pos n)) → n ≤ 2147483648
SFits-negative n f = omega (arith, ints)

negative-SFits : (n : ℕ) → n ≤ 2147483648 → SFits w32 (neg_ℤ (pos n))
negative-SFits n h = omega (arith, ints)

-- a word of `-` and digits, converted where the number fits
pub negative_read : {E : Type 0} (digits : Word) (m : ℕ) (z : ℤ) (r : Result ℤ E) →
    IsDigits 10 digits m → z ≡ neg_ℤ (pos m) → OkIff r (SFits w32 z) z →
    MatchOption (result_ok r) ((y : ℤ) → IsInteger (45 ∷ digits) y → ⊥) (λ y. IsInteger (45 ∷ digits) y)
negative_read digits m z (Ok y) d v h =
    rw (h.1 ∙ v) (negative d (SFits-negative m (rw v at h.0)))
negative_read digits m z (Err e) d v misfit =
    λ y i.
    elim (IsInteger-cases (45 ∷ digits) y i) [
      | inl h ↦ no_sign digits h.0 h.1
      | inr h ↦
          let tails : digits ≡ h.0 = cc in
          let same : m ≡ h.1 = sym d.spells ∙ ap number_value tails ∙ h.3.spells in
          misfit (rw v (negative-SFits m (omega (arith, same, h.4))))
    ]

-- a word of digits, converted where the number fits
pub positive_read : {E : Type 0} (word : Word) (m : ℕ) (r : Result ℤ E) →
    IsDigits 10 word m → OkIff r (SFits w32 (pos m)) (pos m) →
    MatchOption (result_ok r) ((y : ℤ) → IsInteger word y → ⊥) (λ y. IsInteger word y)
positive_read word m (Ok y) d h = rw h.1 (positive d (SFits-positive m h.0))
positive_read word m (Err e) d misfit =
    λ y i.
    elim (IsInteger-cases word y i) [
      | inl h ↦
          let same : m ≡ h.0 = sym d.spells ∙ h.1.spells in
          misfit (positive-SFits m (omega (arith, same, h.2)))
      | inr h ↦ no_sign h.0 m (rw h.2 at d)
    ]

0-pos : (m : ℕ) → pos 0 -ℤ pos m ≡ neg_ℤ (pos m)
0-pos zero = refl
0-pos (suc m) = grind arith

-- what the machine's `-` gives
pub negated : (m : ℕ) → m < 10 ^ 10 → to_z w64 (of_z w64 (pos 0 -ℤ to_z w64 m)) ≡ neg_ℤ (pos m)
negated m h =
    let e : to_z w64 (of_z w64 (pos 0 -ℤ to_z w64 m)) ≡ pos 0 -ℤ pos m = omega (arith, ints) in
    e ∙ 0-pos m
