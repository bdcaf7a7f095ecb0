-- The words of a block behind a write: variables, replies and toggles.
use Rattle.std.proofs.Common.{◌≡◌, ◌≢◌, ℕ, ◌+◌, ◌*◌, ◌<◌, ◌≤◌, Bool, true, false, List, [], ◌∷◌, length, set, take, refl, sym, ap, ◌∙◌, arith, cond, inl, inr, int_eq, Decides}
use Rattle.std.specs.Prelude.{ℤ, pos}
use Rattle.std.proofs.Math.Nat.{mul-le-mul_right}
use Rattle.std.proofs.lemmas.Bool.{cases_lt}
use Rattle.std.proofs.lemmas.Bool.Decides.{Decides-int_eq}
use Rattle.std.proofs.lemmas.List.{get_or-set_same, get_or-set_other, take-set-le}
use Rattle.ll_cell.specs.Cell.{refilled}
use Rattle.wf_table.specs.declared.process.Sizes.{Sizes}
use Rattle.wf_table.specs.StepTable.{part, toggle_place, toggle_in, inverted}
use Rattle.wf_table.proofs.Words.{at_toggle, refilled_behind}
use Rattle.wf_table.specs.Contents.{reply_word}

-- the first words are written anew
pub take_refilled : (block ws : List ℤ) → length ws ≤ length block → take (length ws) (refilled block ws) ≡ ws
take_refilled block [] le = refl
take_refilled [] (w ∷ ws) le = absurd (omega (arith, le))
take_refilled (x ∷ block) (w ∷ ws) le = ap (λ (xs : List ℤ). w ∷ xs) (take_refilled block ws (omega (arith, le)))

parts_apart : (v w j k i n : ℕ) → i < w + 2 → n < w + 2 → k ≢ j → v + j * (w + 2) + i ≡ v + k * (w + 2) + n → ⊥
parts_apart v w j k i n lt less d e =
    elim (cases_lt j k) [
      | inl below ↦ omega (arith, e, lt, mul-le-mul_right {m = j + 1} {n = k} (w + 2) (omega (arith, below)))
      | inr more ↦ elim (cases_lt k j) [
        | inl below ↦ omega (arith, e, less, mul-le-mul_right {m = k + 1} {n = j} (w + 2) (omega (arith, below)))
        | inr same ↦ d (omega (arith, more, same))
      ]
    ]

module _ (z : Sizes) (own : List ℤ) where
  -- a variable is written
  pub variable_reply : (i : ℕ) (w : ℤ) (k n : ℕ) → i < z.variables → reply_word z (set own i w) k n ≡ reply_word z own k n
  variable_reply i w k n lt = get_or-set_other own i (part z k + n) w (pos 0) (λ e. absurd (omega (arith, e, lt)))

  pub variable_toggle : (i : ℕ) (w : ℤ) (k : ℕ) → i < z.variables → toggle_in z (set own i w) k ≡ toggle_in z own k
  variable_toggle i w k lt = get_or-set_other own i (toggle_place z k) w (pos 0) (λ e. absurd (omega (arith, e, lt)))

  -- all variables are written
  pub variables_reply : (ws : List ℤ) (k n : ℕ) → length ws ≤ z.variables → reply_word z (refilled own ws) k n ≡ reply_word z own k n
  variables_reply ws k n le = refilled_behind own ws (part z k + n) (omega (arith, le))

  pub variables_toggle : (ws : List ℤ) (k : ℕ) → length ws ≤ z.variables → toggle_in z (refilled own ws) k ≡ toggle_in z own k
  variables_toggle ws k le = refilled_behind own ws (toggle_place z k) (omega (arith, le))

  -- a word of the part of process j is written
  pub part_variables : (j i : ℕ) (w : ℤ) → take z.variables (set own (part z j + i) w) ≡ take z.variables own
  part_variables j i w = take-set-le z.variables own (part z j + i) w (omega arith)

  pub other_reply : (j i : ℕ) (w : ℤ) (k n : ℕ) → i < z.replies + 2 → n < z.replies + 1 → k ≢ j → reply_word z (set own (part z j + i) w) k n ≡ reply_word z own k n
  other_reply j i w k n lt less d = get_or-set_other own (part z j + i) (part z k + n) w (pos 0) (λ e. parts_apart z.variables z.replies j k i n lt (omega (arith, less)) d (sym e))

  pub earlier_reply : (j i : ℕ) (w : ℤ) (n : ℕ) → n < i → reply_word z (set own (part z j + i) w) j n ≡ reply_word z own j n
  earlier_reply j i w n less = get_or-set_other own (part z j + i) (part z j + n) w (pos 0) (λ e. absurd (omega (arith, less, e)))

  pub this_reply : (j i : ℕ) (w : ℤ) → part z j + i < length own → reply_word z (set own (part z j + i) w) j i ≡ w
  this_reply j i w lt = get_or-set_same own (part z j + i) w (pos 0) lt

  pub reply_toggle : (j i : ℕ) (w : ℤ) (k : ℕ) → i < z.replies + 1 → toggle_in z (set own (part z j + i) w) k ≡ toggle_in z own k
  reply_toggle j i w k lt = get_or-set_other own (part z j + i) (toggle_place z k) w (pos 0) (λ e. absurd (omega (arith, lt, at_toggle z.variables z.replies j k i (omega (arith, lt)) (sym e))))

  pub other_toggle : (j : ℕ) (w : ℤ) (k : ℕ) → k ≢ j → toggle_in z (set own (toggle_place z j) w) k ≡ toggle_in z own k
  other_toggle j w k d = get_or-set_other own (toggle_place z j) (toggle_place z k) w (pos 0) (λ e. parts_apart z.variables z.replies j k (z.replies + 1) (z.replies + 1) (omega arith) (omega arith) d (sym e))

by_zero : (t : ℤ) (b : Bool) → Decides b (t ≡ pos 0) → cond b (pos 1) (pos 0) ≢ t
by_zero t true d e = (let is : pos 1 ≡ pos 0 = e ∙ d.0 refl in absurd (cc))
by_zero t false d e = (let no : false ≡ true = d.1 (sym e) in absurd (cc))

pub inverted_differs : (t : ℤ) → inverted t ≢ t
inverted_differs t = by_zero t (int_eq t (pos 0)) (Decides-int_eq t (pos 0))
