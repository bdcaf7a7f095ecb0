-- Which words of a record or a history name a call.
use Rattle.std.specs.Prelude.{◌≡◌, ◌<◌, ◌+◌, ℕ, List, Option, None, Some, MatchOption, drop, option_map, slice_get}
use Rattle.ob_text_reading.specs.HistoryLines.{process_numbers}
use Rattle.ob_text_reading.specs.RecordLines.{IsId}
use Rattle.ob_text_words.specs.Words.{Word}
use Rattle.wf_history.specs.declared.event.CallId.{CallId}

-- the word names the call, as p.k, as words of records do
abbrev pub Names : Word → CallId → Type 0
Names word id = IsId process_numbers word id

module _ (ws : List Word) (id : CallId) where
  abbrev pub NamesNone : Type 0
  NamesNone = (k : ℕ) (word : Word) → slice_get ws k ≡ Some word → ¬ Names word id

  -- the word at this place names the call, and none before it does
  pub record IsFirstNaming (place : ℕ) : Type 0 where
    pub word : Word
    pub here : slice_get ws place ≡ Some word
    pub names : Names word id
    pub earlier : (k : ℕ) (other : Word) → k < place → slice_get ws k ≡ Some other → ¬ Names other id

  -- the place of the first word that names the call, where one does
  abbrev pub IsNaming : Option ℕ → Type 0
  IsNaming place = MatchOption place NamesNone IsFirstNaming

-- the place of the first word that names the call behind the first one, where there are two
pub record IsNextNaming (ws : List Word) (id : CallId) (place : Option ℕ) : Type 0 where
  pub first : Option ℕ
  pub is_first : IsNaming ws id first
  pub next : MatchOption first (place ≡ None) (λ k. (behind : Option ℕ) × IsNaming (drop (k + 1) ws) id behind × (place ≡ option_map (λ j. k + 1 + j) behind))
