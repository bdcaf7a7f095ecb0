-- The lines of a record's text, its first line, and those behind the order.
use Rattle.std.specs.Prelude.{◌≡◌, ℕ, List, [], ◌∷◌, ◌++◌, All, length, map, codes, Option, Some, None}
use Rattle.std.specs.Borrow.{Bor}
use Rattle.std.specs.Io.BufRead.{strip_last}
use Rattle.ob_text_words.specs.Words.{Word, lines, words}

abbrev pub Line : Type 0
Line = List Word

-- the words of each line; a line feed at the end of the text begins no line
abbrev pub record_lines : List ℕ → List Line
record_lines text = map words (lines (strip_last 10 text))

-- what stands behind a line feed, if there is one, as lines
abbrev pub lines_behind : Option (Bor (List ℕ)) → List Line
lines_behind None = []
lines_behind (Some text) = map words (lines text.now)

-- obl0 record, and the version
abbrev pub IsTitle : Word → Line → Type 0
IsTitle version line = line ≡ codes "obl0" ∷ codes "record" ∷ version ∷ []

-- a line behind the O line: its first byte is S or V
pub data IsTail : Line → Type 0 where
  schedule : {more : List ℕ} {ws : List Word} → IsTail ((83 ∷ more) ∷ ws)
  variable : {more : List ℕ} {ws : List Word} → IsTail ((86 ∷ more) ∷ ws)

-- the line of this number, from 0, has neither S nor V for its first byte, and those before it have
pub record IsFirstOther (ls : List Line) (number : ℕ) : Type 0 where
  pub before : List Line
  pub line : Line
  pub rest : List Line
  pub parts : ls ≡ before ++ line ∷ rest
  pub counted : number ≡ length before
  pub tails : All IsTail before
  pub other : ¬ IsTail line
