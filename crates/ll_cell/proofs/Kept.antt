-- What is read and written of blocks of one form.
use Rattle.std.proofs.Common.{◌≡◌, ◌≢◌, ℕ, ◌+◌, ◌*◌, ◌<◌, ◌≤◌, List, [], length, set, get_or, take, drop, replicate, refl, sym, ap, subst, ◌∙◌, arith, inl, inr, length-drop, le_refl}
use Rattle.std.specs.Prelude.{ℤ, pos}
use Rattle.std.specs.Int.{bit_at}
use Rattle.std.proofs.lemmas.Bool.{cases_eq, cases_lt}
use Rattle.std.proofs.lemmas.Nat.Bits.{bit_at-zero}
use Rattle.std.proofs.lemmas.Nat.{mul-add-lt, same_from_place, row_fits_turned}
use Rattle.std.proofs.lemmas.List.{length-set, get_or-set_same, get_or-set_other, length-replicate, get_or-replicate, get_or_past, length-take-le, get_or-take, get_or-drop}
use Rattle.ll_cell.specs.declared.form.Form.{Form}
use Rattle.ll_cell.specs.declared.form.Place.{Place}
use Rattle.ll_cell.specs.declared.form.Place.TheVariants.{Word, Bit}
use Rattle.ll_cell.specs.Cell.{word_at}
use Rattle.ll_cell.specs.Form.{row_words, kept_words, place_of}
use Rattle.ll_cell.specs.Rows.{listed, kept_at, word_kept, rows_kept}
use Rattle.ll_cell.proofs.Places.{Stands, IsLast, stands_at, word_below, word_apart, bit_apart, head_place}
use Rattle.ll_cell.proofs.Listed.{length_listed, listed_at, is_listed, listed_same, listed_set, listed_replicate, take_listed}

module _ (f : Form) (words : List ℤ) (bits : List ℕ) where
  pub rows_length : length (rows_kept f words bits) ≡ length bits
  rows_length = length_listed (length bits) (λ b. listed (row_words f) (word_kept f words bits b))

  pub row_kept : (b : ℕ) → b < length bits → get_or (rows_kept f words bits) b [] ≡ listed (row_words f) (word_kept f words bits b)
  row_kept b lt = listed_at (length bits) (λ k. listed (row_words f) (word_kept f words bits k)) b [] lt

  pub row_length : (b : ℕ) → b < length bits → length (get_or (rows_kept f words bits) b []) ≡ row_words f
  row_length b lt = ap length (row_kept b lt) ∙ length_listed (row_words f) (word_kept f words bits b)

  pub word_read : (b i : ℕ) → b < length bits → i < row_words f → word_at (get_or (rows_kept f words bits) b []) i ≡ word_kept f words bits b i
  word_read b i lt within = ap (λ ws. word_at ws i) (row_kept b lt) ∙ listed_at (row_words f) (word_kept f words bits b) i (pos 0) within

  -- one word of one block is another
  pub rows_written : (words' : List ℤ) (bits' : List ℕ) (b i : ℕ) (w : ℤ) → length bits' ≡ length bits → b < length bits → i < row_words f
      → word_kept f words' bits' b i ≡ w
      → ((c j : ℕ) → c < length bits → j < row_words f → (c ≡ b → j ≡ i → ⊥) → word_kept f words' bits' c j ≡ word_kept f words bits c j)
      → rows_kept f words' bits' ≡ set (rows_kept f words bits) b (set (get_or (rows_kept f words bits) b []) i w)
  rows_written words' bits' b i w long lt within here others =
      ap (λ n. listed n (λ c. listed (row_words f) (word_kept f words' bits' c))) long
      ∙ listed_set [] (length bits) b (λ c. listed (row_words f) (word_kept f words' bits' c)) _ (rows_kept f words bits) rows_length lt
      (listed_set (pos 0) (row_words f) i (word_kept f words' bits' b) w (get_or (rows_kept f words bits) b []) (row_length b lt) within here
      (λ j le other. others b j lt le (λ same e. other e) ∙ sym (word_read b j lt le)))
      (λ c lc other. listed_same (pos 0) (row_words f) (word_kept f words' bits' c) (word_kept f words bits c) (λ j le. others c j lc le (λ same e. other same)) ∙ sym (row_kept c lc))

module _ (f : Form) (part : 0 < f.part) (words : List ℤ) (bits : List ℕ) (filled : length words ≡ kept_words f * length bits) (b i : ℕ) (lt : b < length bits) (within : i < row_words f) where
  -- a word that is no bit
  module _ (k : ℕ) (at : place_of f i ≡ Word k) where
    stands : Stands f i (Word k)
    stands = subst (Stands f i) at (stands_at f part i within)

    pub place_below : b * kept_words f + k < length words
    place_below = omega (arith, filled, mul-add-lt b (kept_words f) k (length bits) lt (word_below f i k stands))

    apart : (w : ℤ) (c j : ℕ) (p : Place) → (c ≡ b → j ≡ i → ⊥) → Stands f j p → kept_at (set words (b * kept_words f + k) w) bits (kept_words f) c p ≡ kept_at words bits (kept_words f) c p
    apart w c j (Word m) other s =
        get_or-set_other words (b * kept_words f + k) (c * kept_words f + m) w (pos 0)
        (λ e.
        let both = same_from_place c m b k (kept_words f) (word_below f j m s) (word_below f i k stands) e in
        other both.0 (word_apart f j i k (subst (λ n. Stands f j (Word n)) both.1 s) stands))
    apart w c j (Bit q) other s = refl

    pub put_word : (w : ℤ) → rows_kept f (set words (b * kept_words f + k) w) bits ≡ set (rows_kept f words bits) b (set (get_or (rows_kept f words bits) b []) i w)
    put_word w =
        rows_written f words bits (set words (b * kept_words f + k) w) bits b i w refl lt within
        (ap (kept_at (set words (b * kept_words f + k) w) bits (kept_words f) b) at ∙ get_or-set_same words (b * kept_words f + k) w (pos 0) place_below)
        (λ c j lc le other. apart w c j (place_of f j) other (stands_at f part j le))

  -- a bit
  module _ (q : ℕ) (at : place_of f i ≡ Bit q) where
    last : IsLast f i q
    last = subst (Stands f i) at (stands_at f part i within)

    module _ (few : f.parts ≤ 16) (w : ℤ) (n : ℕ) (here : pos (bit_at n q) ≡ w) (others : (j : ℕ) → j < 16 → j ≢ q → bit_at n j ≡ bit_at (get_or bits b 0) j) where
      beside : (c j : ℕ) (p : Place) → (c ≡ b → j ≡ i → ⊥) → Stands f j p → kept_at words (set bits b n) (kept_words f) c p ≡ kept_at words bits (kept_words f) c p
      beside c j (Word m) other s = refl
      beside c j (Bit r) other s = elim (cases_eq c b) [
        | inl same ↦
            ap (λ x. pos (bit_at x r)) (ap (λ x. get_or (set bits b n) x 0) same ∙ get_or-set_same bits b n 0 lt)
            ∙ ap pos (others r (omega (arith, s.part_in, few)) (λ e. other same (bit_apart f j i q (subst (λ x. Stands f j (Bit x)) e s) last)))
            ∙ ap (λ x. pos (bit_at (get_or bits x 0) r)) (sym same)
        | inr apart ↦ ap (λ x. pos (bit_at x r)) (get_or-set_other bits b c n 0 apart)
      ]

      pub put_bit : rows_kept f words (set bits b n) ≡ set (rows_kept f words bits) b (set (get_or (rows_kept f words bits) b []) i w)
      put_bit =
          rows_written f words bits words (set bits b n) b i w (length-set bits b n) lt within
          (ap (kept_at words (set bits b n) (kept_words f) b) at ∙ ap (λ x. pos (bit_at x q)) (get_or-set_same bits b n 0 lt) ∙ here)
          (λ c j lc le other. beside c j (place_of f j) other (stands_at f part j le))

-- a block ends within the words
pub row_ends : (f : Form) (words : List ℤ) (bits : List ℕ) (b : ℕ) → length words ≡ kept_words f * length bits → b < length bits → b * kept_words f + kept_words f ≤ length words
row_ends f words bits b filled lt = omega (arith, filled, row_fits_turned b (kept_words f) (kept_words f) (length bits) lt (le_refl (kept_words f)))

-- the first words of a block
pub front_read : (f : Form) (words : List ℤ) (bits : List ℕ) (b count : ℕ) → length words ≡ kept_words f * length bits → b < length bits → count ≤ f.head
    → take count (drop (b * kept_words f) words) ≡ take count (get_or (rows_kept f words bits) b [])
front_read f words bits b count filled lt le =
    let ends = row_ends f words bits b filled lt in
    let first : ℕ = b * kept_words f in
    let more : count ≤ row_words f = omega (arith, le) in
    let fits : count ≤ length (drop first words) = omega (arith, length-drop first words, ends, le) in
    sym
    (ap (take count) (row_kept f words bits b lt)
    ∙ take_listed (row_words f) count (word_kept f words bits b) more
    ∙ is_listed (pos 0) count (word_kept f words bits b) (take count (drop first words)) (length-take-le count (drop first words) fits)
    (λ i here.
    let at : place_of f i ≡ Word i = head_place f i (omega (arith, here, le)) in
    ap (kept_at words bits (kept_words f) b) at ∙ sym (get_or-take count (drop first words) i (pos 0) here ∙ get_or-drop first words i (pos 0))))

zero_at : (c k : ℕ) → get_or (replicate c (pos 0)) k (pos 0) ≡ pos 0
zero_at c k = elim (cases_lt k c) [
  | inl lt ↦ get_or-replicate c k (pos 0) (pos 0) lt
  | inr le ↦ get_or_past (replicate c (pos 0)) k (pos 0) (omega (arith, le, length-replicate c (pos 0)))
]

no_bits : (n b : ℕ) → ◌≡◌ {A = ℕ} (get_or (replicate n 0) b 0) 0
no_bits n b = elim (cases_lt b n) [
  | inl lt ↦ get_or-replicate {A = ℕ} n b 0 0 lt
  | inr le ↦ get_or_past {X = ℕ} (replicate n 0) b 0 (omega (arith, le, length-replicate {A = ℕ} n 0))
]

zero_kept : (c n s b : ℕ) (p : Place) → kept_at (replicate c (pos 0)) (replicate n 0) s b p ≡ pos 0
zero_kept c n s b (Word k) = zero_at c (b * s + k)
zero_kept c n s b (Bit q) = ap (λ x. pos (bit_at x q)) (no_bits n b) ∙ ap pos (bit_at-zero q)

-- blocks of 0s
pub zero_rows : (f : Form) (c n : ℕ) → rows_kept f (replicate c (pos 0)) (replicate n 0) ≡ replicate n (replicate (row_words f) (pos 0))
zero_rows f c n =
    ap (λ k. listed k (λ b. listed (row_words f) (word_kept f (replicate c (pos 0)) (replicate n 0) b))) (length-replicate {A = ℕ} n 0)
    ∙ listed_replicate n (λ b. listed (row_words f) (word_kept f (replicate c (pos 0)) (replicate n 0) b)) (replicate (row_words f) (pos 0))
    (λ b lb. listed_replicate (row_words f) (word_kept f (replicate c (pos 0)) (replicate n 0) b) (pos 0) (λ i li. zero_kept c n (kept_words f) b (place_of f i)))
