-- The toggles of the own block behind a step of its process.
use Rattle.std.proofs.Common.{◌≡◌, ◌≢◌, ℕ, ◌+◌, ◌*◌, ◌<◌, ◌≤◌, List, [], length, set, sym, ap, ◌∙◌, arith, inl, inr}
use Rattle.std.specs.Prelude.{ℤ, pos}
use Rattle.std.proofs.Math.Nat.{mul-le-mul_right}
use Rattle.std.proofs.lemmas.Bool.{cases_lt}
use Rattle.std.proofs.lemmas.List.{get_or-set_same}
use Rattle.ll_cell.specs.Cell.{Cell, own_of, word_at, refilled}
use Rattle.wf_table.specs.declared.process.Sizes.{Sizes}
use Rattle.wf_table.specs.StepTable.{toggle_place, part, block_words, own_block, Own, Refill, cell_after}
use Rattle.wf_table.proofs.Words.{refilled_behind, toggle_within}
use Rattle.wf_table.specs.HelpAndOrder.{own_toggles}
use Rattle.wf_table.proofs.HelpAndOrderSteps.{word_stays}

-- a place of one part is the toggle's place of a part in one way alone
same_part : (v w j k i : ℕ) → i < w + 2 → v + j * (w + 2) + i ≡ v + k * (w + 2) + (w + 1) → (j ≡ k) × (i ≡ w + 1)
same_part v w j k i lt e =
    elim (cases_lt j k) [
      | inl less ↦ absurd (omega (arith, e, lt, mul-le-mul_right {m = j + 1} {n = k} (w + 2) (omega (arith, less))))
      | inr more ↦ elim (cases_lt k j) [
        | inl less ↦ absurd (omega (arith, e, lt, mul-le-mul_right {m = k + 1} {n = j} (w + 2) (omega (arith, less))))
        | inr same ↦ (let is : j ≡ k = omega (arith, more, same) in (is, omega (arith, e, ap (λ (x : ℕ). x * (w + 2)) is)))
      ]
    ]

module _ (z : Sizes) (c : Cell) (p : ℕ) where
  -- a variable is written
  pub variable_written : (k i : ℕ) (w : ℤ) → i < z.variables → own_toggles z (cell_after c p (Own i w)) p k ≡ own_toggles z c p k
  variable_written k i w lt = word_stays c.blocks (own_of c p) (own_of c p) i (toggle_place z k) w (λ _ e. absurd (omega (arith, e, lt)))

  -- the variables are written
  pub variables_written : (k : ℕ) (ws : List ℤ) → own_of c p < length c.blocks → length ws ≤ z.variables → own_toggles z (cell_after c p (Refill ws)) p k ≡ own_toggles z c p k
  variables_written k ws within le =
      ap (λ (block : List ℤ). word_at block (toggle_place z k)) (get_or-set_same c.blocks (own_of c p) (refilled (own_block c p) ws) [] within)
      ∙ refilled_behind (own_block c p) ws (toggle_place z k) (omega (arith, le))

  -- a word of process j's part is written, but its toggle
  pub reply_written : (j k i : ℕ) (w : ℤ) → i < z.replies + 1 → own_toggles z (cell_after c p (Own (part z j + i) w)) p k ≡ own_toggles z c p k
  reply_written j k i w lt = word_stays c.blocks (own_of c p) (own_of c p) (part z j + i) (toggle_place z k) w
      (λ _ e. (let same = same_part z.variables z.replies j k i (omega (arith, lt)) (sym e) in absurd (omega (arith, lt, same.1))))

  -- the toggle of process j is written
  pub others_toggles : (j k : ℕ) (w : ℤ) → k ≢ j → own_toggles z (cell_after c p (Own (part z j + (z.replies + 1)) w)) p k ≡ own_toggles z c p k
  others_toggles j k w d = word_stays c.blocks (own_of c p) (own_of c p) (part z j + (z.replies + 1)) (toggle_place z k) w
      (λ _ e. (let same = same_part z.variables z.replies j k (z.replies + 1) (omega arith) (sym e) in d (sym same.0)))

  pub toggle_written : (j : ℕ) (w : ℤ) → j < z.processes → own_of c p < length c.blocks → length (own_block c p) ≡ block_words z → own_toggles z (cell_after c p (Own (part z j + (z.replies + 1)) w)) p j ≡ w
  toggle_written j w lt within long =
      ap (λ (block : List ℤ). word_at block (toggle_place z j)) (get_or-set_same c.blocks (own_of c p) (set (own_block c p) (toggle_place z j) w) [] within)
      ∙ get_or-set_same (own_block c p) (toggle_place z j) w (pos 0) (omega (arith, long, toggle_within z j lt))
