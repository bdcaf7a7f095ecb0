-- The words of a line of words with a space between each two, and the lines of a text of lines.
use Rattle.std.proofs.Common.{◌≡◌, ℕ, ◌+◌, ◌-◌, ◌≤◌, ◌==◌, ◌&&◌, not, Bool, true, false, cond, if◌then◌else◌, List, [], ◌∷◌, ◌++◌, All, length, take, slice_index, filter, map, flat_map, nat_lt, refl, sym, ◌∙◌, ap, ap₂, subst, arith, append_assoc, append-nil, length-append, eq-eqb, ne_eqb}
use Rattle.std.proofs.lemmas.List.Elements.{All-cons, All-append}
use Rattle.std.proofs.lemmas.List.Splits.{slice_split_at, slice_split_none}
use Rattle.std.proofs.lemmas.Bool.Decides.{nat_tests}
use Rattle.std.proofs.Math.Seq.{take-append_seam}
use Rattle.std.specs.Io.BufRead.{ends_with_byte, strip_last}
use Rattle.std.specs.List.{slice_split}
use Rattle.ob_laws.proofs.Words.{IsWord}
use Rattle.ob_text_reading.specs.RecordLines.{Line, record_lines}
use Rattle.ob_text_words.specs.Words.{Word, is_blank, lines, words}

-- words, each with a space before it
abbrev pub spaced : List Word → List ℕ
spaced = flat_map (λ w. 32 ∷ w)

-- a line of words; there is one at least
pub data AreWords : Line → Type 0 where
  one : {w : Word} → IsWord w → AreWords (w ∷ [])
  more : {w v : Word} {ws : List Word} → IsWord w → AreWords (v ∷ ws) → AreWords (w ∷ v ∷ ws)

abbrev pub written : Line → List ℕ
written [] = []
written (w ∷ ws) = w ++ spaced ws

kept_word : (w : Word) (ws : List Word) → 1 ≤ length w → filter (λ v. not (length v == 0)) (w ∷ ws) ≡ w ∷ filter (λ v. not (length v == 0)) ws
kept_word w ws some =
    let rest = filter (λ v. not (length v == 0)) ws in
    ap (λ (b : Bool). cond (not b) (w ∷ rest) rest) (ne_eqb (length w) 0 (λ e. omega (arith, e, some)))

pub words_written : (line : Line) → AreWords line → words (written line) ≡ line
words_written [] h = elim h [ ]
words_written (w ∷ []) (one h) =
    ap words (append-nil w) ∙ ap (filter (λ v. not (length v == 0))) (slice_split_none is_blank w h.clean.no_blank) ∙ kept_word w [] h.some
words_written (w ∷ v ∷ ws) (more h hs) =
    ap (filter (λ u. not (length u == 0))) (slice_split_at is_blank w 32 (written (v ∷ ws)) h.clean.no_blank refl)
    ∙ kept_word w (slice_split is_blank (written (v ∷ ws))) h.some ∙ ap (λ (us : List Word). w ∷ us) (words_written (v ∷ ws) hs)

no_feed : (line : Line) → AreWords line → All (λ b. (b == 10) ≡ false) (written line)
no_feed [] h = elim h [ ]
no_feed (w ∷ []) (one h) = subst (λ (bs : List ℕ). All (λ b. (b == 10) ≡ false) bs) (sym (append-nil w)) h.clean.no_feed
no_feed (w ∷ v ∷ ws) (more h hs) = All-append (λ b. (b == 10) ≡ false) w (32 ∷ written (v ∷ ws)) h.clean.no_feed (All-cons (λ b. (b == 10) ≡ false) 32 (written (v ∷ ws)) refl (no_feed (v ∷ ws) hs))

-- a text of lines, each with a line feed behind it
abbrev pub text_of : List Line → List ℕ
text_of = flat_map (λ line. written line ++ 10 ∷ [])

-- with a line feed between each two
abbrev between : Line → List Line → List ℕ
between line [] = written line
between line (next ∷ ls) = written line ++ 10 ∷ between next ls

feed_last : (line : Line) (ls : List Line) → text_of (line ∷ ls) ≡ between line ls ++ 10 ∷ []
feed_last line [] = append-nil (written line ++ 10 ∷ [])
feed_last line (next ∷ ls) =
    append_assoc (written line) (10 ∷ []) (text_of (next ∷ ls)) ∙ ap (λ (bs : List ℕ). written line ++ 10 ∷ bs) (feed_last next ls)
    ∙ sym (append_assoc (written line) (10 ∷ between next ls) (10 ∷ []))

pub data AllWords : List Line → Type 0 where
  none : AllWords []
  line : {l : Line} {ls : List Line} → AreWords l → AllWords ls → AllWords (l ∷ ls)

lines_between : (l : Line) (ls : List Line) → AllWords (l ∷ ls) → map words (lines (between l ls)) ≡ l ∷ ls
lines_between l [] (line h hs) = ap (map words) (slice_split_none (λ b. b == 10) (written l) (no_feed l h)) ∙ ap (λ (v : Line). v ∷ []) (words_written l h)
lines_between l (next ∷ ls) (line h hs) =
    ap (map words) (slice_split_at (λ b. b == 10) (written l) 10 (between next ls) (no_feed l h) refl)
    ∙ ap₂ (λ (v : Line) (vs : List Line). v ∷ vs) (words_written l h) (lines_between next ls hs)

last_index : (bs : List ℕ) (c : ℕ) → slice_index (bs ++ c ∷ []) (length bs) ≡ c
last_index [] c = refl
last_index (b ∷ bs) c = last_index bs c

without_feed : (bs : List ℕ) → strip_last 10 (bs ++ 10 ∷ []) ≡ bs
without_feed bs =
    let long : length (bs ++ 10 ∷ []) ≡ length bs + 1 = length-append bs (10 ∷ []) in
    let short : length (bs ++ 10 ∷ []) - 1 ≡ length bs = omega (arith, long) in
    let last : slice_index (bs ++ 10 ∷ []) (length (bs ++ 10 ∷ []) - 1) ≡ 10 = ap (slice_index (bs ++ 10 ∷ [])) short ∙ last_index bs 10 in
    let positive : nat_lt 0 (length (bs ++ 10 ∷ [])) ≡ true = grind (arith, nat_tests, long) in
    let ends : ends_with_byte 10 (bs ++ 10 ∷ []) ≡ true = ap₂ (λ (p q : Bool). p && q) positive (eq-eqb _ _ last) in
    ap (λ (b : Bool). if b then take (length (bs ++ 10 ∷ []) - 1) (bs ++ 10 ∷ []) else (bs ++ 10 ∷ [])) ends
    ∙ ap (λ (n : ℕ). take n (bs ++ 10 ∷ [])) short ∙ take-append_seam bs (10 ∷ [])

-- the lines of words of such a text
pub lines_of_text : (l : Line) (ls : List Line) → AllWords (l ∷ ls) → record_lines (text_of (l ∷ ls)) ≡ l ∷ ls
lines_of_text l ls h = ap (λ (bs : List ℕ). map words (lines (strip_last 10 bs))) (feed_last l ls) ∙ ap (λ (bs : List ℕ). map words (lines bs)) (without_feed (between l ls)) ∙ lines_between l ls h
