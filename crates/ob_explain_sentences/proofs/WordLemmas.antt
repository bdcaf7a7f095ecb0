-- The words that bytes begin with.
use Rattle.std.proofs.Common.{◌≡◌, ℕ, suc, ◌+◌, ◌≤◌, Bool, cond, true, false, List, [], ◌∷◌, length, take, refl, sym, ap, ◌∙◌, arith}
use Rattle.std.specs.List.{prefix_len, take_while, HoldsAt}
use Rattle.std.specs.Char.{is_ascii_alphabetic, is_ascii_alphanumeric}
use Rattle.std.proofs.lemmas.List.Sums.{take_while-cons}
use Rattle.std.proofs.lemmas.List.Folds.{length-prefix_len}
use Rattle.ob_explain_sentences.specs.Words.{word_at}

-- as many bytes as pass from the front on are those that pass
one_more : (p : ℕ → Bool) (b : ℕ) (bs : List ℕ) (t : Bool) → take (prefix_len p bs) bs ≡ take_while p bs →
    take (cond t (1 + prefix_len p bs) 0) (b ∷ bs) ≡ cond t (b ∷ take_while p bs) []
one_more p b bs true h =
    let first : 1 + prefix_len p bs ≡ suc (prefix_len p bs) = omega arith in
    ap (λ k. take k (b ∷ bs)) first ∙ ap (λ r. b ∷ r) h
one_more p b bs false h = refl

passing : (p : ℕ → Bool) (bytes : List ℕ) → take (prefix_len p bytes) bytes ≡ take_while p bytes
passing p [] = refl
passing p (b ∷ bs) = one_more p b bs (p b) (passing p bs) ∙ sym (take_while-cons p b bs)

pub taken_while : (p : ℕ → Bool) (bytes : List ℕ) (count : ℕ) → count ≡ length (take (prefix_len p bytes) bytes) → take count bytes ≡ take_while p bytes
taken_while p bytes count h = ap (λ k. take k bytes) (h ∙ length-prefix_len p bytes) ∙ passing p bytes

-- the word at a letter, and none where no letter stands
pub word_here : (line : List ℕ) (x : ℕ) → HoldsAt (λ y. x ≡ y) line 0 → is_ascii_alphabetic x ≡ true → word_at line ≡ take_while is_ascii_alphanumeric line
word_here [] x h letter = absurd (omega (arith, h 0, h 1))
word_here (b ∷ bs) x h letter =
    let same : is_ascii_alphabetic b ≡ true = ap is_ascii_alphabetic (sym (h 0)) ∙ letter in
    rw same refl

pub none_here : (line : List ℕ) (x : ℕ) → HoldsAt (λ y. x ≡ y) line 0 → is_ascii_alphabetic x ≡ false → [] ≡ word_at line
none_here [] x h other = absurd (omega (arith, h 0, h 1))
none_here (b ∷ bs) x h other =
    let same : is_ascii_alphabetic b ≡ false = ap is_ascii_alphabetic (sym (h 0)) ∙ other in
    rw same refl

pub none_behind : (line : List ℕ) → length line ≤ 0 → [] ≡ word_at line
none_behind [] h = refl
none_behind (b ∷ bs) h = absurd (omega (arith, h))
