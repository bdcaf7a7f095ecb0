-- Numbers that are all that is said.
use Rattle.std.specs.Prelude.{◌≡◌, ℕ, ◌≤◌, List, [], ◌∷◌, Option, MatchOption}
use Rattle.ob_text_words.specs.Words.{IsNumeral, IsProcess, Word}

-- the words are not one that says a number of this range
abbrev pub SaysNoNumber : List Word → (least most : ℕ) → Type 0
SaysNoNumber ws least most = (word : Word) (n : ℕ) → ws ≡ word ∷ [] → IsNumeral word n → least ≤ n → n ≤ most → ⊥

-- the number of this range that the only word says is found, if it says one
abbrev pub FindsOnlyNumber : List Word → (least most : ℕ) → Option ℕ → Type 0
FindsOnlyNumber ws least most found =
    MatchOption found (SaysNoNumber ws least most)
    (λ n. (word : Word) × (ws ≡ word ∷ []) × IsNumeral word n × (least ≤ n) × (n ≤ most))

-- the number of at most nine digits that the only word says is found, if it says one
abbrev pub FindsProcess : List Word → Option ℕ → Type 0
FindsProcess ws found =
    MatchOption found ((word : Word) (p : ℕ) → ws ≡ word ∷ [] → IsProcess word p → ⊥)
    (λ p. (word : Word) × (ws ≡ word ∷ []) × IsProcess word p)
