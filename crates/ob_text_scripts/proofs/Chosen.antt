-- Schedules of so many steps, item by item.
use Rattle.std.proofs.Common.{◌≡◌, ◌+◌, ◌<◌, ◌≤◌, ◌^◌, ℕ, List, [], ◌∷◌, ◌++◌, length, decimal, refl, arith, length-append, false}
use Rattle.std.proofs.lemmas.List.Elements.{All-append, All-cons, All-nil}
use Rattle.std.proofs.lemmas.List.Sums.{sum_by-append}
use Rattle.ob_text_words.specs.Schedule.{item_words, more, none, steps}
use Rattle.ob_text_words.specs.declared.item.Item.TheVariants as Items
use Rattle.ob_text_scripts.specs.Chance.{IsCounted, IsOfSteps, steps_in, steps_word}
use Rattle.ob_text_scripts.proofs.ItemWords.{HasNoMark, is_mark, items_behind, word_behind}
use Rattle.ob_text_scripts.proofs.Numbers.{nine_digits, no_marks}

-- no word is a schedule of no steps
pub no_steps : (processes : ℕ) → IsOfSteps processes 0 []
no_steps processes = record { items = []; says = none; counted = All-nil IsCounted; total = λ some. refl }

-- and of any number of steps, where there is no process to take them
pub nobody : (processes n : ℕ) → processes ≡ 0 → IsOfSteps processes n []
nobody processes n is = record { items = []; says = none; counted = All-nil IsCounted; total = λ some. absurd (omega (arith, is, some)) }

module _ (p k : ℕ) (short : p < 10 ^ 9) (few : k < 10 ^ 9) where
  whole_word : HasNoMark (steps_word p k)
  whole_word =
      All-append (λ b. is_mark b ≡ false) (decimal p) (42 ∷ decimal k) (no_marks (decimal p) (nine_digits p short).digits)
      (All-cons (λ b. is_mark b ≡ false) 42 (decimal k) refl (no_marks (decimal k) (nine_digits k few).digits))

  some_word : 0 < length (steps_word p k)
  some_word = let one = length-append (decimal p) (42 ∷ decimal k) in omega (arith, one)

  -- one more item
  pub more_steps : (processes n m : ℕ) (text : List ℕ) → p < processes → k ≤ 1000000 → m ≡ n + k → IsOfSteps processes n text
      → IsOfSteps processes m (text ++ 10 ∷ steps_word p k)
  more_steps processes n m text below most is so_far = record {
    items = so_far.items ++ Items.Steps p k ∷ [];
    says = rw (word_behind text (steps_word p k) whole_word some_word)
        (items_behind processes (item_words text) (steps_word p k ∷ []) so_far.items (Items.Steps p k ∷ []) so_far.says
        (more (steps (nine_digits p short) (nine_digits k few)) below none));
    counted = All-append IsCounted so_far.items (Items.Steps p k ∷ []) so_far.counted (All-cons IsCounted (Items.Steps p k) [] most (All-nil IsCounted));
    total = λ some.
        (let parts = sum_by-append steps_in so_far.items (Items.Steps p k ∷ []) in
        let so_many = so_far.total some in
        omega (arith, parts, so_many, is));
  }
