-- Words that are taken off a line.
use Rattle.std.proofs.Common.{◌≡◌, ℕ, ◌+◌, ◌-◌, ◌≤◌, ◌==◌, true, false, not, Some, None, List, [], ◌∷◌, ◌++◌, length, filter, take, drop, get_or, refl, sym, ◌∙◌, ap, arith, zero, suc}
use Rattle.std.specs.List.{All, position, slice_split}
use Rattle.std.proofs.lemmas.Bool.{false≢true}
use Rattle.std.proofs.lemmas.List.Elements.{All-nil}
use Rattle.std.proofs.lemmas.List.Quantifiers.{position-Some}
use Rattle.std.proofs.lemmas.List.Splits.{slice_split_at, slice_split_none}
use Rattle.std.proofs.lemmas.Bool.Decides.{nat_tests}
use Rattle.ob_text_words.specs.Words.{Word, is_blank, words}
use Rattle.ob_text_values_reading.proofs.FirstLines.{only_part, part_at}

abbrev pub HasNoBlank : List ℕ → Type 0
HasNoBlank bytes = All (λ b. is_blank b ≡ false) bytes

-- those that are something
abbrev some_words : List Word → List Word
some_words ws = filter (λ w. not (length w == 0)) ws

pub no_words : words [] ≡ []
no_words = refl

-- a blank begins no word
pub behind_blank : (b : ℕ) (rest : List ℕ) → is_blank b ≡ true → words (b ∷ rest) ≡ words rest
behind_blank b rest blank = ap some_words (slice_split_at is_blank [] b rest (All-nil (λ b. is_blank b ≡ false)) blank)

keeps : (w : Word) (ws : List Word) → 1 ≤ length w → some_words (w ∷ ws) ≡ w ∷ some_words ws
keeps [] ws h = absurd (omega arith)
keeps (b ∷ w) ws h =
    let something : not (length (b ∷ w) == 0) ≡ true = grind (arith, nat_tests) in
    rw something refl

pub word_then : (w : Word) (b : ℕ) (rest : List ℕ) → HasNoBlank w → 1 ≤ length w → is_blank b ≡ true → words (w ++ b ∷ rest) ≡ w ∷ words rest
word_then w b rest whole long blank = ap some_words (slice_split_at is_blank w b rest whole blank) ∙ keeps w (slice_split is_blank rest) long

pub word_alone : (w : Word) → HasNoBlank w → 1 ≤ length w → words w ≡ w ∷ []
word_alone w whole long = ap some_words (slice_split_none is_blank w whole) ∙ keeps w [] long

-- a text that begins with no blank
abbrev pub BeginsWord : List ℕ → Type 0
BeginsWord text = (first : ℕ) × (behind : List ℕ) × (text ≡ first ∷ behind) × (is_blank first ≡ false)

long_take : (first : ℕ) (behind : List ℕ) (i : ℕ) → is_blank first ≡ false → is_blank (get_or (first ∷ behind) i 0) ≡ true → 1 ≤ length (take i (first ∷ behind))
long_take first behind zero other blank = absurd (false≢true (sym other ∙ blank))
long_take first behind (suc i) other blank = omega arith

word_to_parts : (first : ℕ) (behind : List ℕ) (i : ℕ) → is_blank first ≡ false → position (λ b. is_blank b) (first ∷ behind) ≡ Some i →
    words (first ∷ behind) ≡ take i (first ∷ behind) ∷ words (drop (i + 1) (first ∷ behind))
word_to_parts first behind i other placed =
    let found = position-Some (λ b. is_blank b) (first ∷ behind) i 0 placed in
    ap some_words (part_at (λ b. is_blank b) (first ∷ behind) 0 i placed)
    ∙ keeps (take i (first ∷ behind)) (slice_split is_blank (drop (i + 1) (first ∷ behind))) (long_take first behind i other found.1)

-- with the place of its first blank
pub word_to : (text : List ℕ) (i : ℕ) → BeginsWord text → position (λ b. is_blank b) text ≡ Some i → words text ≡ take i text ∷ words (drop (i + 1) text)
word_to text i b placed = rw b.2 (word_to_parts b.0 b.1 i b.3 (rw b.2 at placed))

long_text : (text : List ℕ) → BeginsWord text → 1 ≤ length text
long_text text b = rw b.2 (omega arith)

pub word_whole : (text : List ℕ) → BeginsWord text → position (λ b. is_blank b) text ≡ None → words text ≡ text ∷ words []
word_whole text b missing = ap some_words (only_part (λ b. is_blank b) text missing) ∙ keeps text [] (long_text text b)

pub nothing_left : (text : List ℕ) → take (length text - length text) (drop (length text) text) ≡ []
nothing_left text = let e : length text - length text ≡ 0 = omega arith in rw e refl
