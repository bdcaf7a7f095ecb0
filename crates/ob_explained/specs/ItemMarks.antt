-- At which item of a schedule a mark stands, by what stands between line feeds and between blanks.
use Rattle.std.specs.Prelude.{ℕ, ◌-◌, ◌≤◌, List, length}
use Rattle.ob_explained.specs.Marks.{MarksWord}
use Rattle.ob_explained.specs.ItemPlaces.{IsItemAt}
use Rattle.ob_text_words.specs.Schedule.{item_words}
use Rattle.ob_text_words.specs.declared.schedule_texts.ScheduleFault.{ScheduleFault}
use Rattle.ob_text_words.specs.declared.schedule_texts.ScheduleFault.TheVariants as Schedule

-- a place in a schedule at which the item of a number begins as a word of its line; its end, where it has fewer items
pub data MarksItem (text : List ℕ) (number : ℕ) : ℕ → Type 0 where
  item : {line word place : ℕ} → IsItemAt text number line word → MarksWord text line word place → MarksItem text number place
  none : length (item_words text) ≤ number - 1 → MarksItem text number (length text)

-- the item that the fault tells
abbrev pub IsItemMark : (schedule : List ℕ) → ScheduleFault → (place : ℕ) → Type 0
IsItemMark schedule (Schedule.Form number) place = MarksItem schedule number place
IsItemMark schedule (Schedule.Process number) place = MarksItem schedule number place
IsItemMark schedule Schedule.NoMemory place = ⊥
