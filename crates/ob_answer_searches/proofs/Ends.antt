-- Texts of states, by their numbers.
use Rattle.std.proofs.Common.{◌≡◌, ℕ, suc, zero, List, [], ◌∷◌, Some, None, map, get_or}
use Rattle.std.proofs.lemmas.Option.{same_Some}
use Rattle.std.specs.List.{slice_get}

-- a text that stands there is that of the state
pub text_there : {A S : Type 0} (view : S → List A) (f : List A → List ℕ) (xs : List S) (k : ℕ) (text : List ℕ) → slice_get (map (λ s. f (view s)) xs) k ≡ Some text → f (get_or (map view xs) k []) ≡ text
text_there view f [] k text there = absurd (cc)
text_there view f (x ∷ xs) zero text there = same_Some (f (view x)) text there
text_there view f (x ∷ xs) (suc k) text there = text_there view f xs k text there

-- where none stands there, there is no state, and that of none is empty
pub text_none : {A S : Type 0} (view : S → List A) (f : List A → List ℕ) → f [] ≡ [] → (xs : List S) (k : ℕ) → slice_get (map (λ s. f (view s)) xs) k ≡ None → f (get_or (map view xs) k []) ≡ []
text_none view f none [] k there = none
text_none view f none (x ∷ xs) zero there = absurd (cc)
text_none view f none (x ∷ xs) (suc k) there = text_none view f none xs k there
