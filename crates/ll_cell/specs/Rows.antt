-- Blocks of one form, as they are kept: all words that are no bits in one list, block after block, and a number for the bits of each block.
use Rattle.std.specs.Prelude.{◌≡◌, ℕ, ◌+◌, ◌-◌, ◌*◌, ◌<◌, ◌≤◌, ℤ, pos, List, [], map, length, slice_index_or, slice_set, nat_lt, nat_le, ◌&&◌, if◌then◌else◌}
use Rattle.std.specs.List.{range_with_len}
use Rattle.std.specs.Int.{bit_at}
use Rattle.ll_cell.specs.declared.form.Form.{Form}
use Rattle.ll_cell.specs.declared.form.Place.{Place}
use Rattle.ll_cell.specs.declared.form.Place.TheVariants.{Word, Bit}
use Rattle.ll_cell.specs.Cell.{word_at, copied, refilled}
use Rattle.ll_cell.specs.Form.{row_words, kept_words, place_of}

pub record Rows : Type 0 where
  pub form : Form
  pub rows : List (List ℤ)

abbrev pub row_of : Rows → ℕ → List ℤ
row_of t b = slice_index_or t.rows b []

-- word i of a block is w
abbrev pub with_word : Rows → (row i : ℕ) → ℤ → Rows
with_word t row i w = record t { rows = slice_set t.rows row (slice_set (row_of t row) i w) }

-- so many words of block b, from word `first` on, stand in this block too
abbrev pub with_copied : Rows → (row b first count : ℕ) → Rows
with_copied t row b first count = record t { rows = slice_set t.rows row (copied first count (row_of t b) (row_of t row)) }

-- f of 0 to n - 1
abbrev pub listed : {X : Type 0} → ℕ → (ℕ → X) → List X
listed n f = map f (range_with_len 0 n)

-- what is kept at a place of block b
abbrev pub kept_at : List ℤ → List ℕ → ℕ → ℕ → Place → ℤ
kept_at words bits stride b (Word k) = slice_index_or words (b * stride + k) (pos 0)
kept_at words bits stride b (Bit q) = pos (bit_at (slice_index_or bits b 0) q)

abbrev pub word_kept : Form → List ℤ → List ℕ → ℕ → ℕ → ℤ
word_kept f words bits b i = kept_at words bits (kept_words f) b (place_of f i)

abbrev pub rows_kept : Form → List ℤ → List ℕ → List (List ℤ)
rows_kept f words bits = listed (length bits) (λ b. listed (row_words f) (word_kept f words bits b))

pub record IsTable (f : Form) (stride : ℕ) (words : List ℤ) (bits : List ℕ) : Type 0 where
  pub few : f.parts ≤ 16
  pub part : 0 < f.part
  pub apart : stride ≡ kept_words f
  pub filled : length words ≡ kept_words f * length bits

-- word k of a list where ws were written from `start` on
abbrev pub written : List ℤ → ℕ → ℕ → ℤ → ℤ
written ws start k old = if nat_le start k && nat_lt k (start + length ws) then word_at ws (k - start) else old

abbrev pub overrun_at : Rows → ℕ → List ℤ → ℕ → ℕ → Place → ℤ
overrun_at t row ws b i (Word k) = written ws (row * kept_words t.form) (b * kept_words t.form + k) (word_at (row_of t b) i)
overrun_at t row ws b i (Bit q) = word_at (row_of t b) i

-- ws are written over the words that are no bits, block after block, from the first of this block on
abbrev pub overrun : Rows → ℕ → List ℤ → Rows
overrun t row ws = record t { rows = listed (length t.rows) (λ b. listed (row_words t.form) (λ i. overrun_at t row ws b i (place_of t.form i))) }

-- ws are the first words of this block, where they are no more than its head
abbrev pub given_back : Rows → ℕ → List ℤ → Rows
given_back t row ws =
    if nat_le (length ws) t.form.head
    then record t { rows = slice_set t.rows row (refilled (row_of t row) ws) }
    else overrun t row ws
