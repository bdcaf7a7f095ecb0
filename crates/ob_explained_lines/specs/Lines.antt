-- Lines of a record, by what they say.
use Rattle.std.specs.Prelude.{◌≡◌, ◌≤◌, ◌<◌, ◌-◌, ℕ, List, ◌∷◌, Option, Some, MatchOption, codes, slice_get}
use Rattle.ob_explained_lines.specs.CallNames.{Names}
use Rattle.ob_explained_lines.specs.declared.record_line.Wanted.{Wanted}
use Rattle.ob_explained_lines.specs.declared.record_line.Wanted.TheVariants as Wants
use Rattle.ob_text_words.specs.Words.{Word, lines, words}
use Rattle.wf_history.specs.declared.event.CallId.{CallId}

-- a letter, a call's name, and more
abbrev pub SaysCall : (letter : Word) → CallId → List Word → Type 0
SaysCall letter id ws = (word : Word) × (rest : List Word) × (ws ≡ letter ∷ word ∷ rest) × Names word id

-- B and a call's name; E and a call's name; O
abbrev pub Says : Wanted → List Word → Type 0
Says (Wants.Begin id) ws = SaysCall (codes "B") id ws
Says (Wants.End id) ws = SaysCall (codes "E") id ws
Says Wants.Order ws = (rest : List Word) × (ws ≡ codes "O" ∷ rest)

module _ (ls : List (List ℕ)) (wanted : Wanted) where
  abbrev pub HasNoLine : Type 0
  HasNoLine = (k : ℕ) (line : List ℕ) → slice_get ls k ≡ Some line → ¬ Says wanted (words line)

  -- the line of this number, from 1, says this, and none before it does
  pub record IsFirstLine (number : ℕ) : Type 0 where
    pub line : List ℕ
    pub counted : 1 ≤ number
    pub here : slice_get ls (number - 1) ≡ Some line
    pub says : Says wanted (words line)
    pub earlier : (k : ℕ) (other : List ℕ) → k < number - 1 → slice_get ls k ≡ Some other → ¬ Says wanted (words other)

-- the number of the first line of a text that says this, where one does
abbrev pub IsLine : (text : List ℕ) → Wanted → Option ℕ → Type 0
IsLine text wanted number = MatchOption number (HasNoLine (lines text) wanted) (IsFirstLine (lines text) wanted)
