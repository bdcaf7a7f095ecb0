-- Texts one behind the other.
use Rattle.std.specs.Prelude.{◌≡◌, ℕ, List, Option, None, Some, length, map}
use Rattle.std.specs.List.{concat}

-- these are their bytes, one text behind the other, and their lengths
pub record AreTexts (bytes lengths : List ℕ) (texts : List (List ℕ)) : Type 0 where
  pub joined : concat texts ≡ bytes
  pub lengths_are : map length texts ≡ lengths

-- the texts of these bytes and lengths, or that there are none
abbrev pub AreTextsIn : (bytes lengths : List ℕ) → Option (List (List ℕ)) → Type 0
AreTextsIn bytes lengths (Some texts) = AreTexts bytes lengths texts
AreTextsIn bytes lengths None = (texts : List (List ℕ)) → AreTexts bytes lengths texts → ⊥
