-- Sums over the processes and rounds that are left, and the two bounds.
use Rattle.std.proofs.Common.{◌≡◌, ℕ, ◌+◌, ◌-◌, ◌*◌, ◌^◌, ◌<◌, ◌≤◌, refl, ap, ◌∙◌, arith}
use Rattle.std.proofs.Math.Nat.{mul-le-mul_left, mul-le-mul_right}
use Rattle.wf_table.specs.declared.process.Sizes.{Sizes}
use Rattle.wf_table.specs.StepTable.{block_words}
use Rattle.wf_table.specs.Ranges.{IsSized}
use Rattle.wf_table.specs.Left.{serve, lap, serves_left, laps_left}
use Rattle.wf_table.specs.Bound.{sharp, bound, bodies_in}

one_more : (n k x : ℕ) → k < n → (n - k) * x ≡ x + (n - (k + 1)) * x
one_more n k x lt = let less : n - k ≡ 1 + (n - (k + 1)) = omega (arith, lt) in ap (λ (a : ℕ). a * x) less ∙ omega arith

module _ (z : Sizes) where
  pub serve_is : serve z ≡ z.arguments + 2 * z.variables + z.replies + 5
  unfolding serve
  serve_is = refl

  pub lap_is : lap z ≡ 2 * block_words z + serves_left z 0 + 6
  unfolding lap serves_left
  lap_is = let all : z.processes ≡ z.processes - 0 = omega arith in ap (λ (a : ℕ). 2 * block_words z + a * serve z + 6) all

  -- one process less is left to serve
  pub serves_one : (j : ℕ) → j < z.processes → serves_left z j ≡ serve z + serves_left z (j + 1)
  unfolding serves_left
  serves_one j lt = one_more z.processes j (serve z) lt

  pub laps_one : (round : ℕ) → round < 2 → laps_left z round ≡ lap z + laps_left z (round + 1)
  unfolding laps_left
  laps_one round lt = one_more 2 round (lap z) lt

  pub laps_two : laps_left z 0 ≡ 2 * lap z
  unfolding laps_left
  laps_two = refl

  pub sharp_is : sharp z ≡ 2 * lap z + z.arguments + z.replies + 6
  unfolding sharp lap serve
  sharp_is = refl

  pub bound_is : sharp z + 10 * z.processes + 22 ≡ bound z
  unfolding sharp bound
  bound_is = omega arith

  -- both bounds are far below what a count can hold
  pub bound_few : IsSized z → bound z < 2 ^ 70
  unfolding bound
  bound_few sized =
      let parts = mul-le-mul_right (z.replies + 2) sized.some in
      let laps = mul-le-mul_right (z.arguments + 2 * z.variables + z.replies + 10) sized.processes in
      omega (arith, parts, laps, sized.block, sized.announcement)

  pub bodies_one : (round : ℕ) → 0 < round → bodies_in z round ≡ bodies_in z (round - 1) + z.processes
  unfolding bodies_in
  bodies_one round some = let more : round ≡ (round - 1) + 1 = omega (arith, some) in ap (λ (a : ℕ). z.processes * a) more ∙ omega arith

  pub bodies_none : bodies_in z 0 ≡ 0
  unfolding bodies_in
  bodies_none = omega arith

  pub bodies_two : bodies_in z 2 ≡ 2 * z.processes
  unfolding bodies_in
  bodies_two = omega arith

  pub bodies_few : (round : ℕ) → round ≤ 2 → bodies_in z round ≤ bodies_in z 2
  unfolding bodies_in
  bodies_few round few = mul-le-mul_left z.processes few
