-- The words of what is left of a line.
use Rattle.std.proofs.Common.{◌≡◌, ℕ, ◌+◌, ◌-◌, ◌<◌, ◌≤◌, ◌==◌, true, false, not, Result, Ok, Err, OnOk, List, [], ◌∷◌, ◌++◌, length, filter, take, drop, get_or, refl, sym, ap, subst, ◌∙◌, arith, append_assoc}
use Rattle.std.specs.List.{All, slice_split}
use Rattle.std.proofs.lemmas.List.{take-append-drop, take_all, take_more, drop_more, drop-drop, get_or-drop, length-drop}
use Rattle.std.proofs.lemmas.List.Elements.{All-push, filter-append}
use Rattle.std.proofs.lemmas.List.Splits.{slice_split_at, slice_split_none}
use Rattle.ob_text_words.specs.Words.{is_blank, words, Word}

abbrev pub HasNoBlank : List ℕ → Type 0
HasNoBlank bytes = All (λ b. is_blank b ≡ false) bytes

-- those that are something
abbrev pub some_words : List Word → List Word
some_words ws = filter (λ w. not (length w == 0)) ws

-- what stands from one place of a line to another
abbrev pub stretch : List ℕ → ℕ → ℕ → List ℕ
stretch line start end = take (end - start) (drop start line)

at_end : (line : List ℕ) (start i : ℕ) → start ≤ i → i < length line → i - start < length (drop start line)
at_end line start i le lt = omega (arith, length-drop start line)

byte_at : (line : List ℕ) (start i : ℕ) → start ≤ i → get_or (drop start line) (i - start) 0 ≡ get_or line i 0
byte_at line start i le =
    let e : start + (i - start) ≡ i = omega arith in
    get_or-drop start line (i - start) 0 ∙ ap (λ k. get_or line k 0) e

pub no_blank_yet : (line : List ℕ) (start : ℕ) → HasNoBlank (stretch line start start)
no_blank_yet line start =
    let e : start - start ≡ 0 = omega arith in
    rw e (λ k d h. absurd (omega arith))

pub no_blank_more : (line : List ℕ) (start i : ℕ) → start ≤ i → i < length line → is_blank (get_or line i 0) ≡ false → HasNoBlank (stretch line start i) → HasNoBlank (stretch line start (i + 1))
no_blank_more line start i le lt other before =
    let next : i + 1 - start ≡ i - start + 1 = omega arith in
    rw (next, take_more (drop start line) (i - start) 0 (at_end line start i le lt), byte_at line start i le)
    (All-push (λ b. is_blank b ≡ false) (stretch line start i) (get_or line i 0) before other)

-- a stretch without a blank, and a blank behind it
pub words_at_blank : (line : List ℕ) (start i : ℕ) → start ≤ i → i < length line → is_blank (get_or line i 0) ≡ true → HasNoBlank (stretch line start i) →
    words (drop start line) ≡ some_words (stretch line start i ∷ []) ++ words (drop (i + 1) line)
words_at_blank line start i le lt blank before =
    let rest = drop start line in
    let at = i - start in
    let next : start + (at + 1) ≡ i + 1 = omega arith in
    let behind : drop at rest ≡ get_or line i 0 ∷ drop (i + 1) line =
    drop_more rest at 0 (at_end line start i le lt) ∙ rw (byte_at line start i le, drop-drop, next) refl in
    let whole : rest ≡ stretch line start i ++ get_or line i 0 ∷ drop (i + 1) line = sym (take-append-drop at rest) ∙ ap (λ t. take at rest ++ t) behind in
    let split : slice_split is_blank rest ≡ stretch line start i ∷ slice_split is_blank (drop (i + 1) line) =
    ap (slice_split is_blank) whole ∙ slice_split_at is_blank (stretch line start i) (get_or line i 0) (drop (i + 1) line) before blank in
    ap some_words split ∙ filter-append (λ w. not (length w == 0)) (stretch line start i ∷ []) (slice_split is_blank (drop (i + 1) line))

-- what is left has no blank
pub words_at_end : (rest : List ℕ) → HasNoBlank rest → words rest ≡ some_words (rest ∷ [])
words_at_end rest none = ap some_words (slice_split_none is_blank rest none)

-- the words so far, once a blank is come to
pub said_more : (line : List ℕ) (start i : ℕ) (said next : List Word) → start ≤ i → i < length line → is_blank (get_or line i 0) ≡ true → HasNoBlank (stretch line start i) →
    next ≡ said ++ some_words (stretch line start i ∷ []) → said ++ words (drop start line) ≡ words line → next ++ words (drop (i + 1) line) ≡ words line
said_more line start i said next le lt blank before e h =
    ap (λ t. t ++ words (drop (i + 1) line)) e ∙ append_assoc said (some_words (stretch line start i ∷ [])) (words (drop (i + 1) line))
    ∙ ap (λ t. said ++ t) (sym (words_at_blank line start i le lt blank before)) ∙ h

-- the words, once the line's end is come to
pub said_all : {T E : Type 0} (line : List ℕ) (start i : ℕ) (said next : List Word) (r : Result T E) → length line ≤ i → HasNoBlank (stretch line start i) →
    said ++ words (drop start line) ≡ words line → OnOk r (next ≡ said ++ some_words (stretch line start (length line) ∷ [])) → OnOk r (next ≡ words line)
said_all line start i said next (Err x) le before h e = tt
said_all line start i said next (Ok x) le before h e =
    let rest = drop start line in
    let all : stretch line start i ≡ rest = take_all (i - start) rest (omega (arith, length-drop start line)) in
    let none : HasNoBlank rest = subst HasNoBlank all before in
    let full : stretch line start (length line) ≡ rest = take_all (length line - start) rest (omega (arith, length-drop start line)) in
    e ∙ ap (λ w. said ++ some_words (w ∷ [])) full ∙ ap (λ t. said ++ t) (sym (words_at_end rest none)) ∙ h
