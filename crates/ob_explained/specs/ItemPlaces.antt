-- Where the items of a schedule stand.
use Rattle.std.specs.Prelude.{◌≡◌, ℕ, ◌+◌, ◌-◌, ◌<◌, ◌≤◌, List, [], Some, flat_map, get_or, length, slice_get, take}
use Rattle.ob_text_words.specs.Words.{Word, lines}
use Rattle.ob_explained.specs.ScriptPlaces.{in_line, word_place}
use Rattle.ob_text_words.specs.Schedule.{item_words, line_items}

-- The item of a number, from 1, is a word of a line: the line's number, from 1, and how many words stand in it before the word. The
-- items before it are those of the lines before, and these words. A comment has no items.
pub record IsItemAt (text : List ℕ) (number line word : ℕ) : Type 0 where
  pub bytes : List ℕ
  pub counted : 1 ≤ line
  pub here : slice_get (lines text) (line - 1) ≡ Some bytes
  pub within : word < length (line_items bytes)
  pub before : length (flat_map line_items (take (line - 1) (lines text))) + word ≡ number - 1

-- the place of the item of a number: of its word, and the text's end where there are fewer items
pub data IsItemPlace (text : List ℕ) (number : ℕ) : ℕ → Type 0 where
  item : {line word : ℕ} → IsItemAt text number line word → IsItemPlace text number (in_line (word_place word) text line)
  none : length (item_words text) ≤ number - 1 → IsItemPlace text number (length text)

-- the item of a number; nothing, where there are fewer
abbrev pub item_at : List ℕ → (number : ℕ) → Word
item_at text number = get_or (item_words text) (number - 1) []
