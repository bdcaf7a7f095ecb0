-- Blocks whose words were lent and come back.
use Rattle.std.proofs.Common.{◌≡◌, ◌≢◌, ℕ, ◌+◌, ◌-◌, ◌*◌, ◌<◌, ◌≤◌, Bool, true, false, cond, List, [], ◌++◌, length, set, get_or, take, drop, refl, sym, ap, ◌∙◌, arith, inl, inr, length-append, length-drop, length-take, ◌&&◌}
use Rattle.std.specs.Prelude.{ℤ, pos, nat_lt, nat_le}
use Rattle.std.proofs.lemmas.Bool.{cases_lt}
use Rattle.std.proofs.lemmas.Bool.Decides.{nat_tests}
use Rattle.std.proofs.lemmas.Nat.{same_from_place}
use Rattle.std.proofs.lemmas.List.{places}
use Rattle.ll_cell.specs.declared.form.Form.{Form}
use Rattle.ll_cell.specs.declared.form.Place.{Place}
use Rattle.ll_cell.specs.declared.form.Place.TheVariants.{Word, Bit}
use Rattle.ll_cell.specs.Cell.{word_at, refilled}
use Rattle.ll_cell.specs.Form.{row_words, kept_words, place_of}
use Rattle.ll_cell.specs.Rows.{Rows, listed, kept_at, word_kept, rows_kept, written, overrun_at, overrun, given_back}
use Rattle.ll_cell.proofs.Places.{Stands, stands_at, word_below, kept_behind, head_place}
use Rattle.ll_cell.proofs.Listed.{is_listed, listed_same, listed_set}
use Rattle.ll_cell.proofs.Kept.{rows_length, row_kept, row_length, word_read, row_ends}

module _ (ws : List ℤ) (start k : ℕ) (old : ℤ) where
  written_before : k < start → written ws start k old ≡ old
  written_before lt = let t : (nat_le start k && nat_lt k (start + length ws)) ≡ false = grind (arith, nat_tests) in ap (λ b. cond b (word_at ws (k - start)) old) t

  written_in : start ≤ k → k < start + length ws → written ws start k old ≡ word_at ws (k - start)
  written_in le lt = let t : (nat_le start k && nat_lt k (start + length ws)) ≡ true = grind (arith, nat_tests) in ap (λ b. cond b (word_at ws (k - start)) old) t

  written_after : start + length ws ≤ k → written ws start k old ≡ old
  written_after le = let t : (nat_le start k && nat_lt k (start + length ws)) ≡ false = grind (arith, nat_tests) in ap (λ b. cond b (word_at ws (k - start)) old) t

-- the words of a list where ws were written from `start` on
abbrev pub overwritten : List ℤ → ℕ → List ℤ → List ℤ
overwritten xs start ws =
    take (length xs) ((take start xs ++ (ws ++ drop (length ws) (drop start xs))) ++ drop (length (take start xs ++ (ws ++ drop (length ws) (drop start xs)))) xs)

module _ (xs : List ℤ) (start : ℕ) (ws : List ℤ) (k : ℕ) (lt : k < length xs) (from : start ≤ length xs) where
  stays_before : k < start → get_or (overwritten xs start ws) k (pos 0) ≡ get_or xs k (pos 0)
  stays_before h = grind (arith, places)

  comes_in : start ≤ k → k < start + length ws → get_or (overwritten xs start ws) k (pos 0) ≡ get_or ws (k - start) (pos 0)
  comes_in le h = grind (arith, places)

  stays_after : start + length ws ≤ k → get_or (overwritten xs start ws) k (pos 0) ≡ get_or xs k (pos 0)
  stays_after h = grind (arith, places)

  pub is_written : get_or (overwritten xs start ws) k (pos 0) ≡ written ws start k (get_or xs k (pos 0))
  is_written = elim (cases_lt k start) [
    | inl h ↦ stays_before h ∙ sym (written_before ws start k (get_or xs k (pos 0)) h)
    | inr le ↦ elim (cases_lt k (start + length ws)) [
      | inl h ↦ comes_in le h ∙ sym (written_in ws start k (get_or xs k (pos 0)) le h)
      | inr h ↦ stays_after h ∙ sym (written_after ws start k (get_or xs k (pos 0)) h)
    ]
  ]

length_refilled : (block ws : List ℤ) → length (refilled block ws) ≡ length block
length_refilled block ws = omega (arith, length-take (length block) (ws ++ drop (length ws) block), length-append ws (drop (length ws) block), length-drop (length ws) block)

refilled_front : (block ws : List ℤ) (i : ℕ) → i < length block → i < length ws → get_or (refilled block ws) i (pos 0) ≡ get_or ws i (pos 0)
refilled_front block ws i lt here = grind (arith, places)

refilled_rest : (block ws : List ℤ) (i : ℕ) → i < length block → length ws ≤ i → get_or (refilled block ws) i (pos 0) ≡ get_or block i (pos 0)
refilled_rest block ws i lt le = grind (arith, places)

module _ (f : Form) (part : 0 < f.part) (words : List ℤ) (bits : List ℕ) (filled : length words ≡ kept_words f * length bits) (row : ℕ) (lt : row < length bits) (ws : List ℤ) where
  abbrev s : ℕ
  s = kept_words f

  abbrev start : ℕ
  start = row * kept_words f

  abbrev after : List ℤ
  after = overwritten words start ws

  abbrev t : Rows
  t = record { form = f; rows = rows_kept f words bits }

  from : start ≤ length words
  from = omega (arith, row_ends f words bits row filled lt)

  here : (b k : ℕ) → b < length bits → k < s → get_or after (b * s + k) (pos 0) ≡ written ws start (b * s + k) (get_or words (b * s + k) (pos 0))
  here b k lb lk = is_written words start ws (b * s + k) (omega (arith, row_ends f words bits b filled lb, lk)) from

  -- whatever comes back
  at_place : (b i : ℕ) (p : Place) → b < length bits → i < row_words f → place_of f i ≡ p → Stands f i p → kept_at after bits s b p ≡ overrun_at t row ws b i p
  at_place b i (Word k) lb li at stands =
      here b k lb (word_below f i k stands)
      ∙ ap (written ws start (b * s + k)) (sym (word_read f words bits b i lb li ∙ ap (kept_at words bits s b) at))
  at_place b i (Bit q) lb li at stands = sym (word_read f words bits b i lb li ∙ ap (kept_at words bits s b) at)

  overruns : rows_kept f after bits ≡ (overrun t row ws).rows
  overruns =
      listed_same [] (length bits) (λ b. listed (row_words f) (word_kept f after bits b)) (λ b. listed (row_words f) (λ i. overrun_at t row ws b i (place_of f i)))
      (λ b lb. listed_same (pos 0) (row_words f) (word_kept f after bits b) (λ i. overrun_at t row ws b i (place_of f i)) (λ i li. at_place b i (place_of f i) lb li refl (stands_at f part i li)))
      ∙ ap (λ n. listed n (λ b. listed (row_words f) (λ i. overrun_at t row ws b i (place_of f i)))) (sym (rows_length f words bits))

  module _ (few : length ws ≤ f.head) where
    -- in the block itself, behind the words that come back
    rest : (i : ℕ) (p : Place) → length ws ≤ i → Stands f i p → kept_at after bits s row p ≡ kept_at words bits s row p
    rest i (Word k) le stands =
        here row k lt (word_below f i k stands)
        ∙ written_after ws start (row * s + k) (get_or words (row * s + k) (pos 0)) (omega (arith, kept_behind f i k (length ws) few le stands))
    rest i (Bit q) le stands = refl

    own : (i : ℕ) → i < row_words f → word_kept f after bits row i ≡ get_or (refilled (get_or (rows_kept f words bits) row []) ws) i (pos 0)
    own i li = elim (cases_lt i (length ws)) [
      | inl h ↦
          let head : i < f.head = omega (arith, h, few) in
          ap (kept_at after bits s row) (head_place f i head)
          ∙ here row i lt (omega (arith, head))
          ∙ written_in ws start (row * s + i) (get_or words (row * s + i) (pos 0)) (omega arith) (omega (arith, h))
          ∙ ap (word_at ws) (omega arith)
          ∙ sym (refilled_front (get_or (rows_kept f words bits) row []) ws i (omega (arith, li, row_length f words bits row lt)) h)
      | inr h ↦
          rest i (place_of f i) h (stands_at f part i li)
          ∙ sym (word_read f words bits row i lt li)
          ∙ sym (refilled_rest (get_or (rows_kept f words bits) row []) ws i (omega (arith, li, row_length f words bits row lt)) h)
    ]

    -- in another block
    aside : (b i : ℕ) (p : Place) → b < length bits → b ≢ row → Stands f i p → kept_at after bits s b p ≡ kept_at words bits s b p
    aside b i (Word k) lb other stands =
        let below = word_below f i k stands in
        here b k lb below
        ∙ elim (cases_lt (b * s + k) start) [
          | inl h ↦ written_before ws start (b * s + k) (get_or words (b * s + k) (pos 0)) h
          | inr le ↦ elim (cases_lt (b * s + k) (start + length ws)) [
            | inl h ↦ absurd (other (same_from_place b k row (b * s + k - start) s below (omega (arith, h, le, few)) (omega (arith, le))).0)
            | inr h ↦ written_after ws start (b * s + k) (get_or words (b * s + k) (pos 0)) h
          ]
        ]
    aside b i (Bit q) lb other stands = refl

    refills : rows_kept f after bits ≡ set (rows_kept f words bits) row (refilled (get_or (rows_kept f words bits) row []) ws)
    refills =
        listed_set [] (length bits) row (λ b. listed (row_words f) (word_kept f after bits b)) (refilled (get_or (rows_kept f words bits) row []) ws) (rows_kept f words bits) (rows_length f words bits) lt
        (is_listed (pos 0) (row_words f) (word_kept f after bits row) (refilled (get_or (rows_kept f words bits) row []) ws) (length_refilled (get_or (rows_kept f words bits) row []) ws ∙ row_length f words bits row lt) own)
        (λ b lb other.
        listed_same (pos 0) (row_words f) (word_kept f after bits b) (word_kept f words bits b) (λ i li. aside b i (place_of f i) lb other (stands_at f part i li))
        ∙ sym (row_kept f words bits b lb))

by : (b : Bool) (x y z : Rows) → (b ≡ true → z ≡ x) → (b ≡ false → z ≡ y) → z ≡ cond b x y
by true x y z then_x else_y = then_x refl
by false x y z then_x else_y = else_y refl

pub comes_back : (f : Form) (part : 0 < f.part) (words : List ℤ) (bits : List ℕ) → length words ≡ kept_words f * length bits → (row : ℕ) → row < length bits → (ws : List ℤ)
    → ◌≡◌ {A = Rows} (record { form = f; rows = rows_kept f (overwritten words (row * kept_words f) ws) bits }) (given_back (record { form = f; rows = rows_kept f words bits }) row ws)
comes_back f part words bits filled row lt ws =
    by (nat_le (length ws) f.head) _ _ _
    (λ e. ap (λ (rs : List (List ℤ)). record { form = f; rows = rs }) (refills f part words bits filled row lt ws (grind (arith, nat_tests))))
    (λ e. ap (λ (rs : List (List ℤ)). record { form = f; rows = rs }) (overruns f part words bits filled row lt ws))
