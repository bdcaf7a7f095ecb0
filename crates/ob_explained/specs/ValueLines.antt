-- In which line of a record's text each of its values stands.
use Rattle.std.specs.Prelude.{◌≡◌, ℕ, suc, ◌-◌, ◌==◌, Bool, false, List, [], ◌∷◌, Some, map, slice_get, if◌then◌else◌}
use Rattle.ob_carry.specs.Carried.{Entry}
use Rattle.ob_text_values_reading.specs.ReadValues.{AreValuesOf}
use Rattle.ob_text_values_reading.specs.Variables.{IsVariableLine}
use Rattle.ob_text_words.specs.Words.{Word, lines, words}

-- a line tells the value of a variable where its first byte is V
abbrev pub tells_value : List Word → Bool
tells_value [] = false
tells_value ([] ∷ others) = false
tells_value ((b ∷ word) ∷ others) = b == 86

-- the numbers of the lines that tell values, where the first line has this number
abbrev pub lines_from : ℕ → List (List Word) → List ℕ
lines_from number [] = []
lines_from number (line ∷ rest) = if tells_value line then number ∷ lines_from (suc number) rest else lines_from (suc number) rest

-- the line of each value, from 1
abbrev pub value_lines : (text : List ℕ) → List ℕ
value_lines text = lines_from 1 (map words (lines text))

-- the line of the value at a position is the one that tells it
pub record IsToldInItsLine (text : List ℕ) (position : ℕ) (e : Entry) : Type 0 where
  pub number : ℕ
  pub line : List ℕ
  pub counted : slice_get (value_lines text) position ≡ Some number
  pub is_line : slice_get (lines text) (number - 1) ≡ Some line
  pub tells : IsVariableLine 86 (words line) e

abbrev pub EachValueHasItsLine : Type 0
EachValueHasItsLine =
    (text : List ℕ) (entries : List Entry) (position : ℕ) (e : Entry)
    → AreValuesOf text entries → slice_get entries position ≡ Some e → IsToldInItsLine text position e
