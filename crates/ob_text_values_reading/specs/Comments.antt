-- Remarks in records: lines of which nothing is read. They count as lines of their text all the same.
use Rattle.std.specs.Prelude.{◌≡◌, ℕ, ◌+◌, ◌-◌, ◌==◌, not, Bool, false, List, [], ◌∷◌, Option, Some, None, filter, length, map, slice_get, take, unwrap_or}
use Rattle.std.specs.List.{enumerate_from}
use Rattle.ob_text_values_reading.specs.RecordTexts.{Line}
use Rattle.ob_text_words.specs.Words.{lines, words}

-- a line is a remark where its first word begins with #
abbrev pub is_comment : Line → Bool
is_comment [] = false
is_comment ([] ∷ ws) = false
is_comment ((b ∷ more) ∷ ws) = b == 35

-- the lines that are no remarks
abbrev pub said : List Line → List Line
said = filter (λ line. not (is_comment line))

-- those lines, each with its number among all, from 1
abbrev pub numbered : List Line → List (ℕ × Line)
numbered ls = filter (λ line. not (is_comment line.1)) (enumerate_from 1 ls)

-- the number among all of the one that has a number among those that are no remarks; of one that is missing, the number behind all
abbrev pub line_number : List Line → (own : ℕ) → ℕ
line_number ls own = unwrap_or (slice_get (map (λ line. line.0) (numbered ls)) (own - 1)) (length ls + 1)

-- the other way round: how many that are no remarks stand before the line of a number, and one
abbrev pub said_number : List Line → (number : ℕ) → ℕ
said_number ls number = length (said (take (number - 1) ls)) + 1

-- what is told of a number among the lines that are no remarks, by the number among all
pub record StandsAmong (Stands : List Line → ℕ → Type 0) (ls : List Line) (number : ℕ) : Type 0 where
  pub own : ℕ
  pub stands : Stands (said ls) own
  pub counted : number ≡ line_number ls own

-- the lines of a text, if there is one
abbrev pub lines_of : Option (List ℕ) → List Line
lines_of None = []
lines_of (Some text) = map words (lines text)
