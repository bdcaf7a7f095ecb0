-- Schedules of so many steps in all.
use Rattle.std.specs.Prelude.{◌≡◌, ℕ, ◌<◌, ◌≤◌, List, ◌++◌, ◌∷◌, All, decimal, sum_by}
use Rattle.ob_text_words.specs.Words.{Word}
use Rattle.ob_text_words.specs.Schedule.{IsSchedule}
use Rattle.ob_text_words.specs.declared.item.Item.{Item}
use Rattle.ob_text_words.specs.declared.item.Item.TheVariants as Items

-- the most steps that an item may stand for
abbrev pub most_in_a_row : ℕ
most_in_a_row = 1000000

-- an item says its number of steps, which is no more than it may stand for
abbrev pub IsCounted : Item → Type 0
IsCounted (Items.Steps p k) = k ≤ most_in_a_row
IsCounted (Items.Until p label) = ⊥
IsCounted (Items.ToAnswer p) = ⊥

-- the steps that it says
abbrev pub steps_in : Item → ℕ
steps_in (Items.Steps p k) = k
steps_in (Items.Until p label) = 0
steps_in (Items.ToAnswer p) = 0

-- A text is a schedule of these processes whose items say their steps: so many in all, where there is a process to take them.
pub record IsOfSteps (processes steps : ℕ) (text : List ℕ) : Type 0 where
  pub items : List Item
  pub says : IsSchedule processes text items
  pub counted : All IsCounted items
  pub total : 0 < processes → sum_by steps_in items ≡ steps

-- the word `p*k`
abbrev pub steps_word : (process count : ℕ) → Word
steps_word process count = decimal process ++ 42 ∷ decimal count
