-- Where the items of a schedule stand, line by line.
use Rattle.std.proofs.Common.{◌≡◌, ℕ, ◌+◌, ◌-◌, ◌<◌, ◌≤◌, List, length, take, get_or, refl, sym, ◌∙◌, ap, zero-add, arith, length-append}
use Rattle.std.specs.List.{enumerate_from, flat_map}
use Rattle.std.proofs.lemmas.List.{take_all}
use Rattle.std.proofs.lemmas.List.FromFn.{get_or-enumerate_from, length-enumerate_from}
use Rattle.std.proofs.lemmas.Option.{slice_get_read}
use Rattle.ob_text_words.specs.Words.{lines}
use Rattle.ob_text_words.proofs.LineItems.{lines_more}
use Rattle.ob_text_words.specs.Schedule.{item_words, line_items}
use Rattle.ob_explained.specs.ItemPlaces.{IsItemAt}

-- what a turn of a loop over numbered lines has read
pub line_at : (parts : List (List ℕ)) (n i : ℕ) (line : List ℕ) → n < length (enumerate_from 0 parts) → (i, line) ≡ get_or (enumerate_from 0 parts) n (i, line) →
    (n < length parts) × (i ≡ n) × (line ≡ get_or parts n line)
line_at parts n i line below at =
    let within : n < length parts = rw length-enumerate_from at below in
    let e : (i, line) ≡ (0 + n, get_or parts n line) = at ∙ get_or-enumerate_from 0 parts n (i, line) within in
    (within, ap (λ p. p.0) e ∙ zero-add n, ap (λ p. p.1) e)

module _ (text : List ℕ) (number : ℕ) where
  -- so many lines are passed, and so many items are left before the one that is looked for
  abbrev pub Passed : (n left : ℕ) → Type 0
  Passed n left = left + length (flat_map line_items (take n (lines text))) ≡ number - 1

  module _ (n left : ℕ) (line : List ℕ) (within : n < length (lines text)) (at : line ≡ get_or (lines text) n line) (passed : Passed n left) where
    pub item_here : (i : ℕ) → i ≡ n → left < length (line_items line) → IsItemAt text number (i + 1) left
    item_here i is few =
        let same : i + 1 - 1 ≡ n = omega (arith, is) in
        record {
          bytes = line;
          counted = omega arith;
          here = rw same (slice_get_read _ _ n line refl within at);
          within = few;
          before = rw same (omega (arith, passed));
        }

    pub passed_more : length (line_items line) ≤ left → Passed (n + 1) (left - length (line_items line))
    passed_more many =
        let so_far = flat_map line_items (take n (lines text)) in
        let sum : length so_far + length (line_items line) ≡ length (flat_map line_items (take (n + 1) (lines text))) =
        sym (length-append so_far (line_items line)) ∙ ap length (lines_more (lines text) n line so_far within at refl) in
        omega (arith, passed, many, sum)

  pub none_left : (n left : ℕ) → length (lines text) ≤ n → Passed n left → length (item_words text) ≤ number - 1
  none_left n left past passed =
      let all : length (flat_map line_items (take n (lines text))) ≡ length (item_words text) = ap (λ (ls : List (List ℕ)). length (flat_map line_items ls)) (take_all n (lines text) past) in
      omega (arith, passed, all)
