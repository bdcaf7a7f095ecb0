-- States of scalars, one variable after the other.
use Rattle.std.proofs.Common.{◌≡◌, ◌∙◌, ap, refl, sym, ℕ, zero, suc, ◌+◌, ◌<◌, List, [], ◌∷◌, ◌++◌, length, get_or, map, take, arith}
use Rattle.std.proofs.lemmas.List.{take_more}
use Rattle.ob_code_calls.specs.Scalars.{held_of}
use Rattle.ob_interface.specs.declared.scalar.Scalar.{Scalar}
use Rattle.ob_object_search.specs.Words.{word_of, words_of}

words_push : (ss : List Scalar) (s : Scalar) → words_of (map held_of (ss ++ s ∷ [])) ≡ words_of (map held_of ss) ++ word_of s ∷ []
words_push [] s = refl
words_push (x ∷ ss) s = ap (λ (l : List ℕ). word_of x ∷ l) (words_push ss s)

-- what stands at a place does not depend on what would stand behind the end
pub get_any : {A : Type 0} (xs : List A) (i : ℕ) (d e : A) → i < length xs → get_or xs i d ≡ get_or xs i e
get_any [] i d e h = absurd (omega (arith, h))
get_any (x ∷ xs) zero d e h = refl
get_any (x ∷ xs) (suc i) d e h = get_any xs i d e (omega (arith, h))

-- the word of one more
pub words_more_of : (words added : List ℕ) (ss : List Scalar) (i : ℕ) (s : Scalar) → i < length ss → s ≡ get_or ss i s → added ≡ words ++ word_of s ∷ [] →
    words ≡ words_of (map held_of (take i ss)) → added ≡ words_of (map held_of (take (i + 1) ss))
words_more_of words added ss i s below here is h =
    is ∙ ap (λ (l : List ℕ). l ++ word_of s ∷ []) h
    ∙ sym (words_push (take i ss) s)
    ∙ ap (λ (l : List Scalar). words_of (map held_of l)) (sym (take_more ss i s below ∙ ap (λ (x : Scalar). take i ss ++ x ∷ []) (sym here)))
