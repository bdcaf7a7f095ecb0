-- The heads of records of a version.
use Rattle.std.specs.Prelude.{◌≡◌, ℕ, List, ◌∷◌}
use Rattle.ob_text_reading.specs.RecordLines.{IsBudget, IsCount, IsTitle, Line}
use Rattle.ob_text_words.specs.Words.{Word}

-- this holds with each title of a version and each line that tells so many processes
abbrev pub ForEachHead : Word → ℕ → (Line → Line → Type 0) → Type 0
ForEachHead version processes Holds = (title second : Line) → IsTitle version title → IsCount second processes → Holds title second

-- the first of some lines tells this budget, and these stand behind it
pub record TakesBudget (ls : List Line) (budget : ℕ) (rest : List Line) : Type 0 where
  pub line : Line
  pub parts : ls ≡ line ∷ rest
  pub tells : IsBudget line budget

-- the first of some lines tells no budget, or there is none
abbrev pub TakesNoBudget : List Line → Type 0
TakesNoBudget ls = (line : Line) (rest : List Line) (budget : ℕ) → ls ≡ line ∷ rest → IsBudget line budget → ⊥
