-- Words and lines that are read one by one.
use Rattle.std.proofs.Common.{◌≡◌, ℕ, ◌+◌, ◌<◌, List, length, get_or, map, Bor, Bool, true, false, MatchOption, refl, sym, ◌∙◌, ap, zero-add}
use Rattle.std.specs.Bool.{then_some}
use Rattle.std.proofs.lemmas.List.{length-map}
use Rattle.std.proofs.lemmas.List.FromFn.{get_or-enumerate_from, length-enumerate_from}
use Rattle.std.proofs.Math.ListN.{get_or-map}
use Rattle.std.specs.List.{enumerate_from}
use Rattle.ob_text_words.specs.Words.{Word, words}

-- a word that was read in place
pub word_at : (ws : List (Bor Word)) (n : ℕ) (w : Bor Word) → w ≡ get_or ws n w → w.now ≡ get_or (map (λ v. v.now) ws) n w.now
word_at ws n w is = ap (λ v. v.now) is ∙ sym (get_or-map (λ (v : Bor Word). v.now) ws n w)

-- what a test gives by `then_some`
pub by_then_some : {A : Type 0} (b : Bool) (a : A) (P : Type 0) (Q : A → Type 0) →
    (b ≡ false → P) → (b ≡ true → Q a) → MatchOption (then_some b a) P Q
by_then_some true a P Q fails holds = holds refl
by_then_some false a P Q fails holds = fails refl

-- what a turn of the loop over numbered lines has read
pub line_at : (parts : List (List ℕ)) (n i : ℕ) (line : List ℕ) → n < length (enumerate_from 0 parts) →
    (i, line) ≡ get_or (enumerate_from 0 parts) n (i, line) →
    (n < length (map words parts)) × (i ≡ n) × (words line ≡ get_or (map words parts) n (words line))
line_at parts n i line below at =
    let within : n < length parts = rw length-enumerate_from at below in
    let e : (i, line) ≡ (0 + n, get_or parts n line) = at ∙ get_or-enumerate_from 0 parts n (i, line) within in
    (rw length-map within, ap (λ p. p.0) e ∙ zero-add n, ap words (ap (λ p. p.1) e) ∙ sym (get_or-map words parts n line))
