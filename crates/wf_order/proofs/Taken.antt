-- What is read of the counts of a configuration.
use Rattle.std.proofs.Common.{◌≡◌, ap, sym, subst, ◌∙◌, ℕ, ◌<◌, true, List, length, get_or}
use Rattle.std.specs.Prelude.{nat_lt}
use Rattle.std.proofs.lemmas.Bool.{ltb-true}
use Rattle.std.proofs.lemmas.List.{get_or_read}

pub taken_is : (xs ys : List ℕ) (p x : ℕ) → true ≡ nat_lt p (length xs) → x ≡ get_or xs p x → xs ≡ ys → x ≡ get_or ys p 0
taken_is xs ys p x t h e = get_or_read xs p x (ltb-true p (length xs) (sym t)) h 0 ∙ ap (λ (l : List ℕ). get_or l p 0) e

pub within_is : (xs ys : List ℕ) (p : ℕ) → true ≡ nat_lt p (length xs) → xs ≡ ys → p < length ys
within_is xs ys p t e = subst (λ (l : List ℕ). p < length l) e (ltb-true p (length xs) (sym t))
