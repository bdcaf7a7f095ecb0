-- Where a row and a word of it lie among the words.
use Rattle.std.proofs.Common.{◌≡◌, ℕ, ◌+◌, ◌*◌, ◌<◌, ◌≤◌, List, [], length, get_or, ap, arith}
use Rattle.std.specs.Prelude.{ℤ}
use Rattle.std.proofs.lemmas.Nat.{mul-add-lt}
use Rattle.ll_cell.specs.declared.form.Form.{Form}
use Rattle.ll_cell.specs.Form.{row_words, kept_words}
use Rattle.ll_cell.specs.Rows.{IsTable, rows_kept}
use Rattle.ll_cell.proofs.Kept.{rows_length, row_length, row_ends}

module _ (f : Form) (stride : ℕ) (words : List ℤ) (bits : List ℕ) (h : IsTable f stride words bits) (row : ℕ) (lt : row < length (rows_kept f words bits)) where
  pub row_in : row < length bits
  row_in = omega (arith, lt, rows_length f words bits)

  pub same_first : row * stride ≡ row * kept_words f
  same_first = ap (λ k. row * k) h.apart

  pub ends : (count : ℕ) → count ≤ f.head → row * stride + count ≤ length words
  ends count le = omega (arith, le, same_first, row_ends f words bits row h.filled row_in)

  module _ (i : ℕ) (within : i < length (get_or (rows_kept f words bits) row [])) where
    pub word_in : i < row_words f
    word_in = omega (arith, within, row_length f words bits row row_in)

  -- a place is one of the words
  pub kept_in : (k : ℕ) → k < kept_words f → row * stride + k < length words
  kept_in k lt = omega (arith, same_first, h.filled, mul-add-lt row (kept_words f) k (length bits) row_in lt)

  pub block_in : kept_words f ≤ length words
  block_in = omega (arith, row_ends f words bits row h.filled row_in)
