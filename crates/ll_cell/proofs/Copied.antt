-- Words of one block that are copied into another.
use Rattle.std.proofs.Common.{◌≡◌, ◌≢◌, ℕ, ◌+◌, ◌-◌, ◌*◌, ◌<◌, ◌≤◌, List, [], ◌++◌, length, set, get_or, take, drop, refl, sym, ap, ◌∙◌, arith, inl, inr, length-append, length-drop, length-take}
use Rattle.std.specs.Prelude.{ℤ, pos}
use Rattle.std.specs.List.{CopiedTo, SameBelow, SameFrom}
use Rattle.std.proofs.lemmas.Bool.{cases_lt}
use Rattle.std.proofs.lemmas.Nat.{same_from_place}
use Rattle.std.proofs.lemmas.List.{places}
use Rattle.ll_cell.specs.declared.form.Form.{Form}
use Rattle.ll_cell.specs.declared.form.Place.{Place}
use Rattle.ll_cell.specs.declared.form.Place.TheVariants.{Word, Bit}
use Rattle.ll_cell.specs.Cell.{copied}
use Rattle.ll_cell.specs.Form.{row_words, kept_words, place_of}
use Rattle.ll_cell.specs.Rows.{listed, kept_at, word_kept, rows_kept}
use Rattle.ll_cell.proofs.Places.{Stands, stands_at, word_below, kept_behind, head_place}
use Rattle.ll_cell.proofs.Listed.{is_listed, listed_same, listed_set}
use Rattle.ll_cell.proofs.Kept.{rows_length, row_kept, row_length, word_read}

module _ (first count : ℕ) (source block : List ℤ) (here : first + count ≤ length block) (there : first + count ≤ length source) where
  pub length_copied : length (copied first count source block) ≡ length block
  length_copied =
      omega (arith, here, there, length-append (take first block) (take count (drop first source) ++ drop (first + count) block), length-append (take count (drop first source)) (drop (first + count) block), length-take first block, length-take count (drop first source), length-drop first source, length-drop (first + count) block)

  pub copied_before : (i : ℕ) → i < first → get_or (copied first count source block) i (pos 0) ≡ get_or block i (pos 0)
  copied_before i lt = grind (arith, places)

  pub copied_in : (i : ℕ) → first ≤ i → i < first + count → get_or (copied first count source block) i (pos 0) ≡ get_or source i (pos 0)
  copied_in i le lt = grind (arith, places)

  pub copied_after : (i : ℕ) → first + count ≤ i → get_or (copied first count source block) i (pos 0) ≡ get_or block i (pos 0)
  copied_after i le = grind (arith, places)

module _ (f : Form) (part : 0 < f.part) (words now : List ℤ) (bits : List ℕ) (filled : length words ≡ kept_words f * length bits) (row b : ℕ) (here : row < length bits) (there : b < length bits) (first count : ℕ) (within : first + count ≤ f.head)
    (moved : CopiedTo words now (b * kept_words f + first) (row * kept_words f + first) count) (below : SameBelow words now (row * kept_words f + first)) (behind : SameFrom words now (row * kept_words f + first + count)) where
  abbrev s : ℕ
  s = kept_words f

  abbrev source : List ℤ
  source = get_or (rows_kept f words bits) b []

  abbrev block : List ℤ
  block = get_or (rows_kept f words bits) row []

  source_long : first + count ≤ length source
  source_long = omega (arith, within, row_length f words bits b there)

  block_long : first + count ≤ length block
  block_long = omega (arith, within, row_length f words bits row here)

  stays : (i : ℕ) (p : Place) → first + count ≤ i → Stands f i p → kept_at now bits s row p ≡ kept_at words bits s row p
  stays i (Word k) le stands = behind (row * s + k) (pos 0) (omega (arith, kept_behind f i k (first + count) within le stands))
  stays i (Bit q) le stands = refl

  own : (i : ℕ) → i < row_words f → word_kept f now bits row i ≡ get_or (copied first count source block) i (pos 0)
  own i li = elim (cases_lt i (first + count)) [
    | inl lt ↦
        let head : i < f.head = omega (arith, lt, within) in
        let at : place_of f i ≡ Word i = head_place f i head in
        ap (kept_at now bits s row) at ∙ elim (cases_lt i first) [
          | inl less ↦
              below (row * s + i) (pos 0) (omega (arith, less))
              ∙ sym (word_read f words bits row i here li ∙ ap (kept_at words bits s row) at)
              ∙ sym (copied_before first count source block block_long source_long i less)
          | inr more ↦
              moved (row * s + i) (pos 0) (omega (arith, more)) (omega (arith, lt))
              ∙ ap (λ (k : ℕ). get_or words k (pos 0)) (omega (arith, more))
              ∙ sym (word_read f words bits b i there li ∙ ap (kept_at words bits s b) at)
              ∙ sym (copied_in first count source block block_long source_long i more lt)
        ]
    | inr le ↦
        stays i (place_of f i) le (stands_at f part i li)
        ∙ sym (word_read f words bits row i here li)
        ∙ sym (copied_after first count source block block_long source_long i le)
  ]

  aside : (c i : ℕ) (p : Place) → c < length bits → c ≢ row → Stands f i p → kept_at now bits s c p ≡ kept_at words bits s c p
  aside c i (Word k) lc other stands =
      let under = word_below f i k stands in
      elim (cases_lt (c * s + k) (row * s + first)) [
        | inl less ↦ below (c * s + k) (pos 0) less
        | inr more ↦ elim (cases_lt (c * s + k) (row * s + first + count)) [
          | inl lt ↦ absurd (other (same_from_place c k row (c * s + k - row * s) s under (omega (arith, lt, more, within)) (omega (arith, more))).0)
          | inr le ↦ behind (c * s + k) (pos 0) le
        ]
      ]
  aside c i (Bit q) lc other stands = refl

  pub rows_copied : rows_kept f now bits ≡ set (rows_kept f words bits) row (copied first count source block)
  rows_copied =
      listed_set [] (length bits) row (λ c. listed (row_words f) (word_kept f now bits c)) (copied first count source block) (rows_kept f words bits) (rows_length f words bits) here
      (is_listed (pos 0) (row_words f) (word_kept f now bits row) (copied first count source block) (length_copied first count source block block_long source_long ∙ row_length f words bits row here) own)
      (λ c lc other.
      listed_same (pos 0) (row_words f) (word_kept f now bits c) (word_kept f words bits c) (λ i li. aside c i (place_of f i) lc other (stands_at f part i li))
      ∙ sym (row_kept f words bits c lc))
