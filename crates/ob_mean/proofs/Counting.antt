-- The first number that passes, and the turns of a call by its replies.
use Rattle.std.proofs.Common.{◌≡◌, refl, sym, ap, ◌∙◌, arith, ℕ, zero, suc, ◌+◌, ◌<◌, ◌≤◌, Bool, true, false, if◌then◌else◌, inl, inr}
use Rattle.std.proofs.lemmas.Bool.{cases_lt}
use Rattle.ob_mean.specs.Turns.{first_from}

-- none before it passes, and it does, unless it is behind them all
pub first_is : (passes : ℕ → Bool) (from count first : ℕ) → from ≤ first → first ≤ from + count →
    ((n : ℕ) → from ≤ n → n < first → passes n ≡ false) → (first < from + count → passes first ≡ true) → first_from passes from count ≡ first
first_is passes from zero first least most none one = omega (arith, least, most)
first_is passes from (suc count) first least most none one =
    elim (cases_lt from first) [
      | inl less ↦
          ap (λ b. if b then from else first_from passes (suc from) count) (none from (omega arith) less)
          ∙ first_is passes (suc from) count first (omega (arith, less)) (omega (arith, most)) (λ n above below. none n (omega (arith, above)) below)
          (λ below. one (omega (arith, below)))
      | inr past ↦
          let same : first ≡ from = omega (arith, least, past) in
          let here : passes from ≡ true = rw same at (one (omega (arith, least, past))) in
          ap (λ b. if b then from else first_from passes (suc from) count) here ∙ sym same
    ]

within_if : (b : Bool) (from count first : ℕ) → first ≤ suc from + count → (if b then from else first) ≤ from + suc count
within_if true from count first h = omega arith
within_if false from count first h = omega (arith, h)

-- that is so of the first one
pub first_within : (passes : ℕ → Bool) (from count : ℕ) → first_from passes from count ≤ from + count
first_within passes from zero = omega arith
first_within passes from (suc count) = within_if (passes from) from count (first_from passes (suc from) count) (first_within passes (suc from) count)

pub first_same : (f g : ℕ → Bool) → ((n : ℕ) → f n ≡ g n) → (from count : ℕ) → first_from f from count ≡ first_from g from count
first_same f g same from zero = refl
first_same f g same from (suc count) =
    ap (λ b. if b then from else first_from f (suc from) count) (same from) ∙ ap (λ k. if g from then from else k) (first_same f g same (suc from) count)

least_if : (b : Bool) (from n rest : ℕ) → from ≤ n → (b ≡ false → rest ≤ n) → (if b then from else rest) ≤ n
least_if true from n rest above others = above
least_if false from n rest above others = others refl

-- it is no greater than any that passes
pub first_least : (passes : ℕ → Bool) (from count n : ℕ) → from ≤ n → passes n ≡ true → first_from passes from count ≤ n
first_least passes from zero n above here = above
first_least passes from (suc count) n above here =
    least_if (passes from) from n (first_from passes (suc from) count) above (λ no.
    elim (cases_lt from n) [
      | inl less ↦ first_least passes (suc from) count n (omega (arith, less)) here
      | inr past ↦
          let same : n ≡ from = omega (arith, above, past) in
          let bad : false ≡ true = sym no ∙ (rw same at here) in
          absurd (cc bad)
    ])

passes_if : (passes : ℕ → Bool) (b : Bool) (from rest bound : ℕ) → (if b then from else rest) < bound → (b ≡ true → passes from ≡ true) →
    (rest < bound → passes rest ≡ true) → passes (if b then from else rest) ≡ true
passes_if passes true from rest bound below here others = here refl
passes_if passes false from rest bound below here others = others below

-- and passes itself, unless it is behind them all
pub first_passes : (passes : ℕ → Bool) (from count : ℕ) → first_from passes from count < from + count → passes (first_from passes from count) ≡ true
first_passes passes from zero below = absurd (omega (arith, below))
first_passes passes from (suc count) below =
    passes_if passes (passes from) from (first_from passes (suc from) count) (from + suc count) below (λ e. e)
    (λ less. first_passes passes (suc from) count (omega (arith, less)))
