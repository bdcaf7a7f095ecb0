-- The first byte of a word.
use Rattle.std.proofs.Common.{◌≡◌, ℕ, List, [], ◌∷◌, Some}
use Rattle.std.specs.List.{slice_get}

pub front_of : (word : List ℕ) (byte : ℕ) → slice_get word 0 ≡ Some byte → (more : List ℕ) × (word ≡ byte ∷ more)
front_of [] byte e = absurd (cc)
front_of (first ∷ more) byte e = (more, cc)
