-- A call laid word by word.
use Rattle.std.proofs.Common.{◌≡◌, ℕ, zero, suc, ◌+◌, ◌-◌, ◌<◌, ◌≤◌, List, [], ◌∷◌, ◌++◌, length, map, take, set, get_or, refl, sym, ap, ◌∙◌, arith}
use Rattle.std.specs.Prelude.{ℤ, pos}
use Rattle.std.proofs.lemmas.List.{take_more, take_more_set}
use Rattle.std.proofs.Math.ListN.{get_or-map}
use Rattle.ob_interface.specs.declared.scalar.Scalar.{Scalar}
use Rattle.ob_interface.specs.declared.scalar.Scalar.TheVariants.{Int}
use Rattle.ob_code_scheme.specs.Layout.{word}
use Rattle.ob_code_correct.specs.CodeMeaning.{padded, other_words}

pub length_padded : (n : ℕ) (ws : List ℤ) → length (padded n ws) ≡ n
length_padded zero ws = refl
length_padded (suc n) ws = ap suc (length_padded n (other_words ws))

-- there is 0 behind the words
padded_at : (n : ℕ) (ws : List ℤ) (i : ℕ) → i < n → get_or (padded n ws) i (pos 0) ≡ get_or ws i (pos 0)
padded_at zero ws i h = absurd (omega (arith, h))
padded_at (suc n) [] zero h = refl
padded_at (suc n) (w ∷ ws) zero h = refl
padded_at (suc n) [] (suc i) h = padded_at n [] i (omega (arith, h))
padded_at (suc n) (w ∷ ws) (suc i) h = padded_at n ws i (omega (arith, h))

-- one more word
pub laid_next : (n : ℕ) (ws words : List ℤ) (i : ℕ) (w : ℤ) → length words ≡ n → i < n → w ≡ get_or ws i (pos 0) → take i words ≡ take i (padded n ws) →
    take (i + 1) (set words i w) ≡ take (i + 1) (padded n ws)
laid_next n ws words i w long below is so_far =
    take_more_set words i w (omega (arith, long, below))
    ∙ ap (λ (l : List ℤ). l ++ w ∷ []) so_far
    ∙ ap (λ (x : ℤ). take i (padded n ws) ++ x ∷ []) (is ∙ sym (padded_at n ws i below))
    ∙ sym (take_more (padded n ws) i (pos 0) (omega (arith, length_padded n ws, below)))

get_behind : (x : ℤ) (xs : List ℤ) (i : ℕ) → 1 ≤ i → get_or xs (i - 1) (pos 0) ≡ get_or (x ∷ xs) i (pos 0)
get_behind x xs zero h = absurd (omega (arith, h))
get_behind x xs (suc i) h = let e : suc i - 1 ≡ i = omega arith in ap (λ (k : ℕ). get_or xs k (pos 0)) e

-- the word of an argument stands behind the first word
pub word_behind : (x : ℤ) (arguments : List Scalar) (i : ℕ) → 1 ≤ i → word (get_or arguments (i - 1) (Int (pos 0))) ≡ get_or (x ∷ map word arguments) i (pos 0)
word_behind x arguments i h = sym (get_or-map word arguments (i - 1) (Int (pos 0))) ∙ get_behind x (map word arguments) i h
