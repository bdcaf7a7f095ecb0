-- The lines of variables: a letter, the name and the value.
use Rattle.std.specs.Prelude.{◌≡◌, ℕ, List, [], ◌∷◌}
use Rattle.ob_carry.specs.Carried.{Entry}
use Rattle.ob_meaning.specs.ByNameValue.{Value}
use Rattle.ob_text_values_reading.specs.RecordTexts.{Line}
use Rattle.ob_text_values_reading.specs.ValueTexts.{SaysValue}
use Rattle.ob_text_words.specs.Words.{IsName, Word}

-- the first byte of a line is this one
pub record BeginsWith (kind : ℕ) (line : Line) : Type 0 where
  pub more : List ℕ
  pub ws : List Word
  pub parts : line ≡ (kind ∷ more) ∷ ws

-- a name and a value
pub data SaysVariable : List Word → Entry → Type 0 where
  says : {name text : Word} {v : Value} → IsName name → SaysValue text v → SaysVariable (name ∷ text ∷ []) (record { name = name; value = v })

-- the line of a variable, whose first word is this byte alone
pub record IsVariableLine (kind : ℕ) (line : Line) (e : Entry) : Type 0 where
  pub ws : List Word
  pub parts : line ≡ (kind ∷ []) ∷ ws
  pub says : SaysVariable ws e
