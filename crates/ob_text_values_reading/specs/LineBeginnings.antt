-- What a text begins with, where no line of it has been told apart yet.
use Rattle.std.specs.Prelude.{◌≡◌, ℕ, List, [], ◌∷◌, ◌++◌, ◌==◌, ◌||◌, map, Bool, true}
use Rattle.ob_interface.specs.declared.scalar.Scalar.{Scalar}
use Rattle.ob_interface.specs.declared.scalar.ScalarType.{ScalarType}
use Rattle.ob_text_values_reading.specs.CallNames.{AreIds, IsId}
use Rattle.ob_text_values_reading.specs.RecordTexts.{Line}
use Rattle.ob_text_words.specs.Values.{AreValues, IsValue}
use Rattle.ob_text_words.specs.Words.{IsNumeral, Word, is_blank, lines, words}
use Rattle.wf_history.specs.declared.event.CallId.{CallId}

-- a word ends where a text begins, and this stands behind it
pub data EndsWord : List ℕ → List ℕ → Type 0 where
  at_end : EndsWord [] []
  at_blank : {b : ℕ} {rest : List ℕ} → is_blank b ≡ true → EndsWord (b ∷ rest) rest

-- what ends a word of a text: a blank or a line feed
abbrev pub ends_word : ℕ → Bool
ends_word b = is_blank b || (b == 10)

-- a text begins with the number of a process and a point, and this stands behind the point
pub record BeginsWithProcess (text : List ℕ) (process : ℕ) (behind : List ℕ) : Type 0 where
  pub word : Word
  pub spells : IsNumeral word process
  pub parts : text ≡ word ++ 46 ∷ behind

-- a text begins with the name of a call, and this stands behind it
pub record BeginsWithId (processes : ℕ) (text : List ℕ) (i : CallId) (behind : List ℕ) : Type 0 where
  pub word : Word
  pub names : IsId processes word i
  pub parts : text ≡ word ++ behind

-- a text begins with a byte, a space and the name of a call, and this stands behind it
pub record BeginsLine (processes : ℕ) (text : List ℕ) (kind : ℕ) (i : CallId) (behind : List ℕ) : Type 0 where
  pub line : List ℕ
  pub parts : text ≡ kind ∷ 32 ∷ line
  pub named : BeginsWithId processes line i behind

-- the first line of a text begins with a word, and this stands behind it
abbrev pub BeginsWithWord : List ℕ → Word → List ℕ → Type 0
BeginsWithWord text word behind = (l : Line) (ls : List Line) → map words (lines behind) ≡ l ∷ ls → map words (lines text) ≡ (word ∷ l) ∷ ls

-- the first line of a text begins with a value of a type, and this stands behind its word
pub record BeginsWithValue (type : ScalarType) (text : List ℕ) (value : Scalar) (behind : List ℕ) : Type 0 where
  pub word : Word
  pub says : IsValue type word value
  pub parts : BeginsWithWord text word behind

-- the first line of a text says values of these types, and this stands behind the line
pub record TakesValues (types : List ScalarType) (text : List ℕ) (values : List Scalar) (rest : List ℕ) : Type 0 where
  pub line : Line
  pub says : AreValues types line values
  pub parts : map words (lines text) ≡ line ∷ map words (lines rest)

-- the first line of a text names calls, and this stands behind the line
pub record TakesIds (processes : ℕ) (text rest : List ℕ) : Type 0 where
  pub line : Line
  pub ids : List CallId
  pub names : AreIds processes line ids
  pub parts : map words (lines text) ≡ line ∷ map words (lines rest)
