-- The tokens of a text that is words with one space between two and a line feed at the end: those words.
use Rattle.std.proofs.Common.{◌≡◌, ℕ, ◌≤◌, Bool, true, false, nat_eq, List, [], ◌∷◌, ◌++◌, length, drop, map, All, refl, sym, ◌∙◌, ap, subst, append_assoc, ⊎_elim}
use Rattle.std.specs.List.{list_all}
use Rattle.std.specs.Char.{is_ascii_alphabetic, is_ascii_alphanumeric, is_ascii_digit}
use Rattle.std.proofs.lemmas.Bool.{and_parts, cases_Bool, false≢true}
use Rattle.std.proofs.lemmas.List.Elements.{All-nil, All-cons, All-head, All-tail}
use Rattle.std.proofs.lemmas.List.Folds.{list_all-append}
use Rattle.ob_scan.specs.declared.token.Kind.{Kind}
use Rattle.ob_scan.specs.Limits.{longest_name, largest_number}
use Rattle.ob_scan.specs.declared.token.Token.{Token}
use Rattle.ob_scan.specs.Spelling.{Spells, IsLongest, number_value}
use Rattle.ob_scan.specs.Tokens.{IsBlank, space, tab, carriage_return, line_feed, OpensComment, BeginsWith, stops, blank, token, place, spelling, KeepsLimits, HasTokens}
use Rattle.ob_scan.proofs.Spellings.{is_spelling, ends_symbol, spells_shape, letter_goes_on, digit_goes_on, symbol_goes_on}
use Rattle.ob_scan.proofs.Comments.{head, tail, opens_is}
use Rattle.ob_scan.proofs.TokenFacts.{spelling_there}
use Rattle.ob_syntax.specs.Printing.{Word, spaced}

-- the bytes of a word spell its kind, within the limits on names and numbers
pub record IsWord (w : Word) : Type 0 where
  pub spells : Spells w.bytes w.kind
  pub name : w.kind ≡ Kind.Ident → length w.bytes ≤ longest_name
  pub number : w.kind ≡ Kind.Number → number_value w.bytes ≤ largest_number

-- a blank goes on with no spelling

record IsNoPart (byte : ℕ) : Type 0 where
  letter : is_ascii_alphanumeric byte ≡ false
  digit : is_ascii_digit byte ≡ false
  equals : nat_eq byte 61 ≡ false
  star : nat_eq byte 42 ≡ false

no_part : {byte : ℕ} → IsBlank byte → IsNoPart byte
no_part space = record { letter = refl; digit = refl; equals = refl; star = refl }
no_part tab = record { letter = refl; digit = refl; equals = refl; star = refl }
no_part carriage_return = record { letter = refl; digit = refl; equals = refl; star = refl }
no_part line_feed = record { letter = refl; digit = refl; equals = refl; star = refl }

not_all : (test : ℕ → Bool) (xs more : List ℕ) (byte : ℕ) → test byte ≡ false → list_all test (xs ++ byte ∷ more) ≡ true → ⊥
not_all test xs more byte f h =
    let behind = (and_parts (list_all test xs) (list_all test (byte ∷ more)) (sym (list_all-append test xs (byte ∷ more)) ∙ h)).1 in
    false≢true (sym f ∙ (and_parts (test byte) (list_all test more) behind).0)

ends_no_symbol : (first : ℕ) (xs more : List ℕ) (byte : ℕ) → nat_eq byte 61 ≡ false →
    ends_symbol first (xs ++ byte ∷ more) ≡ true → ⊥
ends_no_symbol first [] [] byte f h = false≢true (sym f ∙ (and_parts (nat_eq byte 61) _ h).0)
ends_no_symbol first [] (m ∷ more) byte f h = false≢true h
ends_no_symbol first (x ∷ []) more byte f h = false≢true h
ends_no_symbol first (x ∷ y ∷ xs) more byte f h = false≢true h

no_blank_within : (first : ℕ) (xs more : List ℕ) {byte : ℕ} → IsBlank byte → is_spelling (first ∷ (xs ++ byte ∷ more)) ≡ true → ⊥
no_blank_within first xs more {byte = byte} b h =
    let no = no_part b in
    ⊎_elim
    (λ (l : is_ascii_alphabetic first ≡ true).
    not_all is_ascii_alphanumeric xs more byte no.letter (letter_goes_on first (xs ++ byte ∷ more) l h))
    (λ (l : is_ascii_alphabetic first ≡ false).
    ⊎_elim
    (λ (d : is_ascii_digit first ≡ true).
    not_all is_ascii_digit xs more byte no.digit (digit_goes_on first (xs ++ byte ∷ more) d h))
    (λ (d : is_ascii_digit first ≡ false).
    ends_no_symbol first xs more byte no.equals (symbol_goes_on first (xs ++ byte ∷ more) l d h).1)
    (cases_Bool (is_ascii_digit first))) (cases_Bool (is_ascii_alphabetic first))

no_blank_in : (bytes more : List ℕ) {byte : ℕ} {kind other : Kind} → IsBlank byte → Spells bytes kind →
    Spells (bytes ++ byte ∷ more) other → ⊥
no_blank_in [] more b s t = false≢true (spells_shape s)
no_blank_in (first ∷ xs) more b s t = no_blank_within first xs more b (spells_shape t)

-- before a blank, a spelling is the longest
pub longest_before_blank : (bytes behind : List ℕ) {byte : ℕ} {kind : Kind} → IsBlank byte → Spells bytes kind →
    IsLongest bytes (byte ∷ behind)
longest_before_blank bytes behind b s [] others other e t = refl
longest_before_blank bytes behind b s (m ∷ more) others other e t =
    absurd (no_blank_in bytes more (subst IsBlank (sym (ap head e)) b) s t)

-- a spelling and a blank open no comment

no_star_blank : (bytes behind rest : List ℕ) {byte : ℕ} {kind : Kind} → IsBlank byte → Spells bytes kind →
    bytes ++ byte ∷ behind ≡ 40 ∷ 42 ∷ rest → ⊥
no_star_blank [] behind rest b s e = false≢true (spells_shape s)
no_star_blank (x ∷ []) behind rest {byte = byte} b s e =
    let h : byte ≡ 42 = ap (λ l. head (tail l)) e in
    false≢true (sym (no_part b).star ∙ ap (λ n. nat_eq n 42) h)
no_star_blank (x ∷ y ∷ []) behind rest {kind = kind} b s e =
    let h : x ≡ 40 = ap head e in
    let k : y ≡ 42 = ap (λ l. head (tail l)) e in
    let P : ℕ → ℕ → Type 0 = λ m n. Spells (m ∷ n ∷ []) kind in
    false≢true (spells_shape (subst (λ n. P 40 n) k (subst (λ m. P m y) h s)))
no_star_blank (x ∷ y ∷ z ∷ more) behind rest {kind = kind} b s e =
    let h : x ≡ 40 = ap head e in
    let k : y ≡ 42 = ap (λ l. head (tail l)) e in
    let P : ℕ → ℕ → Type 0 = λ m n. Spells (m ∷ n ∷ z ∷ more) kind in
    false≢true (spells_shape (subst (λ n. P 40 n) k (subst (λ m. P m y) h s)))

pub opens_none_before_blank : (bytes behind : List ℕ) {byte : ℕ} {kind : Kind} → IsBlank byte → Spells bytes kind →
    ¬ OpensComment (bytes ++ byte ∷ behind)
opens_none_before_blank bytes behind {byte = byte} b s o =
    no_star_blank bytes behind (drop 2 (bytes ++ byte ∷ behind)) b s (opens_is o)

-- what is left of a whole text has these words as its tokens

record HasWords (whole text : List ℕ) (ws : List Word) : Type 0 where
  tokens : List Token
  begins : BeginsWith whole text tokens []
  limited : All (KeepsLimits whole) tokens
  same : map (λ t. record { kind = t.kind; bytes = spelling whole t }) tokens ≡ ws

no_words : (whole : List ℕ) → HasWords whole [] []
no_words whole = record { tokens = []; begins = stops; limited = All-nil (KeepsLimits whole); same = refl }

-- a word and a blank before further words
word_before : (whole before text left : List ℕ) (byte : ℕ) (w : Word) (ws : List Word) → whole ≡ before ++ text →
    text ≡ w.bytes ++ byte ∷ left → IsBlank byte → IsWord w → HasWords whole left ws → HasWords whole text (w ∷ ws)
word_before whole before text left byte w ws e f b i h =
    let t : Token = record { kind = w.kind; start = place whole text; end = place whole (byte ∷ left) } in
    let s : spelling whole t ≡ w.bytes = spelling_there before w.bytes (byte ∷ left) whole text e f in
    let word : List ℕ → Word = λ l. record { kind = w.kind; bytes = l } in
    record {
      tokens = t ∷ h.tokens;
      begins = token w.bytes w.kind f i.spells (longest_before_blank w.bytes left b i.spells)
          (subst (λ l. ¬ OpensComment l) (sym f) (opens_none_before_blank w.bytes left b i.spells)) (blank b h.begins);
      limited = All-cons (KeepsLimits whole) t h.tokens
          (subst (λ l. (w.kind ≡ Kind.Ident → length l ≤ longest_name) × (w.kind ≡ Kind.Number → number_value l ≤ largest_number)) (sym s) (i.name, i.number))
          h.limited;
      same = ap (λ l. word l ∷ map (λ t. record { kind = t.kind; bytes = spelling whole t }) h.tokens) s ∙ ap (λ l. w ∷ l) h.same;
    }

words_left : (whole before text : List ℕ) (w : Word) (ws : List Word) → whole ≡ before ++ text →
    text ≡ w.bytes ++ (spaced ws ++ 10 ∷ []) → IsWord w → All IsWord ws → HasWords whole text (w ∷ ws)
words_left whole before text w [] e f i all = word_before whole before text [] 10 w [] e f line_feed i (no_words whole)
words_left whole before text w (v ∷ ws) e f i all =
    let left = (v.bytes ++ spaced ws) ++ 10 ∷ [] in
    let g : text ≡ (w.bytes ++ 32 ∷ []) ++ left = f ∙ sym (append_assoc w.bytes (32 ∷ []) left) in
    word_before whole before text left 32 w (v ∷ ws) e f space i
    (words_left whole (before ++ (w.bytes ++ 32 ∷ [])) left v ws
    (e ∙ ap (λ l. before ++ l) g ∙ sym (append_assoc before (w.bytes ++ 32 ∷ []) left)) (append_assoc v.bytes (spaced ws) (10 ∷ []))
    (All-head IsWord v ws all) (All-tail IsWord v ws all))

-- the tokens of the text are the words
pub spaced_tokens : (first : Word) (ws : List Word) → All IsWord (first ∷ ws) →
    (tokens : List Token) × HasTokens (first.bytes ++ (spaced ws ++ 10 ∷ [])) tokens
    × (map (λ t. record { kind = t.kind; bytes = spelling (first.bytes ++ (spaced ws ++ 10 ∷ [])) t }) tokens ≡ first ∷ ws)
spaced_tokens first ws all =
    let whole = first.bytes ++ (spaced ws ++ 10 ∷ []) in
    let h = words_left whole [] whole first ws refl refl (All-head IsWord first ws all) (All-tail IsWord first ws all) in
    (h.tokens, record { spelled = h.begins; limited = h.limited }, h.same)
