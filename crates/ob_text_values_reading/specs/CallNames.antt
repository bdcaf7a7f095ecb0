-- The names of calls, as words of a line.
use Rattle.std.specs.Prelude.{◌≡◌, ℕ, ◌<◌, ◌^◌, List, [], ◌∷◌, ◌++◌}
use Rattle.ob_text_words.specs.Words.{IsNumeral, Word, words}
use Rattle.wf_history.specs.declared.event.CallId.{CallId}

-- there are so many processes
module _ (processes : ℕ) where
  -- p.k: p below the number of processes, k below 2^64
  pub data IsId : Word → CallId → Type 0 where
    id : {first second : Word} {p k : ℕ} → IsNumeral first p → p < processes → IsNumeral second k → k < 2 ^ 64 →
        IsId (first ++ 46 ∷ second) (record { process = p; number = k })

  pub data AreIds : List Word → List CallId → Type 0 where
    none : AreIds [] []
    more : {word : Word} {ws : List Word} {id : CallId} {ids : List CallId} → IsId word id → AreIds ws ids → AreIds (word ∷ ws) (id ∷ ids)

-- the first word of a line names a call, and this stands behind the word
pub record TakesId (processes : ℕ) (line : List ℕ) (i : CallId) (rest : List ℕ) : Type 0 where
  pub word : Word
  pub parts : words line ≡ word ∷ words rest
  pub names : IsId processes word i

-- the first word of a line names no call
abbrev pub TakesNoId : ℕ → List ℕ → Type 0
TakesNoId processes line = (word : Word) (rest : List Word) (i : CallId) → words line ≡ word ∷ rest → IsId processes word i → ⊥
