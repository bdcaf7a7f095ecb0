-- What holds of each token of a text: where it lies, and what its bytes are.
use Rattle.std.proofs.Common.{◌≡◌, ℕ, ◌+◌, ◌-◌, ◌<◌, ◌≤◌, true, IsTrue, ◌||◌, List, [], ◌∷◌, ◌++◌, length, take, drop, slice_range, refl, sym, ◌∙◌, ap, subst, arith, ⊎_elim, append_assoc, length-append}
use Rattle.std.specs.List.{All, list_all}
use Rattle.std.specs.Int.{is_in_range}
use Rattle.std.specs.Char.{is_ascii_alphabetic, is_ascii_alphanumeric, is_ascii_digit}
use Rattle.std.proofs.lemmas.Bool.{or_cases, or_left, or_right, and_from}
use Rattle.std.proofs.lemmas.List.{take_at, drop_at, take-append-drop, drop-drop}
use Rattle.std.proofs.lemmas.List.Elements.{All-nil, All-cons, All-head, All-tail, All-weaker}
use Rattle.ob_scan.specs.declared.token.Kind.{Kind}
use Rattle.ob_scan.specs.declared.token.Kind.TheVariants.{Ident, Number}
use Rattle.ob_scan.specs.Limits.{longest_name, largest_number}
use Rattle.ob_scan.specs.declared.token.Token.{Token}
use Rattle.ob_scan.specs.Lexemes.{lexeme, IsSpelled, spelled, lexemes}
use Rattle.ob_scan.specs.Spelling.{fixed_spelling, Spells, fixed, name, number, number_value}
use Rattle.ob_scan.specs.Tokens.{CommentEnds, close, nested, other, BeginsWith, stops, blank, comment, token, spelling, place, KeepsLimits, HasTokens}

-- a token lies within its text, and its bytes spell its kind
pub record IsSpelledWithin (text : List ℕ) (t : Token) : Type 0 where
  pub ordered : t.start ≤ t.end
  pub within : t.end ≤ length text
  pub spells : Spells (spelling text t) t.kind

-- what stands before the end of a comment
pub before_end : {text rest : List ℕ} → CommentEnds text rest → (before : List ℕ) × (text ≡ before ++ rest)
before_end close = (42 ∷ 41 ∷ [], refl)
before_end {rest = rest} (nested a b) =
    let x = before_end a in
    let y = before_end b in
    (40 ∷ 42 ∷ (x.0 ++ y.0), ap (λ l. 40 ∷ 42 ∷ l) (x.1 ∙ ap (λ l. x.0 ++ l) y.1 ∙ sym (append_assoc x.0 y.0 rest)))
before_end (other {byte = byte} o c a) =
    let x = before_end a in
    (byte ∷ x.0, ap (λ l. byte ∷ l) x.1)

-- the bytes between two places
slice_at : (before bytes behind : List ℕ) (from to : ℕ) → from ≡ length before → to ≡ length before + length bytes →
    slice_range (before ++ (bytes ++ behind)) from to ≡ bytes
slice_at before bytes behind from to e f =
    ap (λ l. take (to - from) l) (drop_at before (bytes ++ behind) from (sym e))
    ∙ take_at bytes behind (to - from) (omega arith)

-- the bytes between two places, and those behind
pub slice_join : (text : List ℕ) (from to : ℕ) → from ≤ to → slice_range text from to ++ drop to text ≡ drop from text
slice_join text from to h =
    let n = to - from in
    let w : from + n ≡ to = omega arith in
    sym (ap (λ l. take n (drop from text) ++ l) (drop-drop n from text ∙ ap (λ i. drop i text) w))
    ∙ take-append-drop n (drop from text)

-- the bytes of a token, by its place in the whole text
pub spelling_there : (before bytes behind whole text : List ℕ) → whole ≡ before ++ text → text ≡ bytes ++ behind →
    slice_range whole (place whole text) (place whole behind) ≡ bytes
spelling_there before bytes behind whole text e f =
    let lw = ap length e ∙ length-append before text in
    let lt = ap length f ∙ length-append bytes behind in
    ap (λ l. slice_range l (place whole text) (place whole behind)) (e ∙ ap (λ l. before ++ l) f)
    ∙ slice_at before bytes behind (place whole text) (place whole behind) (omega arith) (omega arith)

spelled_at : (before bytes behind : List ℕ) (kind : Kind) (whole text : List ℕ) →
    whole ≡ before ++ text → text ≡ bytes ++ behind → Spells bytes kind →
    IsSpelledWithin whole (record { kind = kind; start = place whole text; end = place whole behind })
spelled_at before bytes behind kind whole text e f s =
    let lw = ap length e ∙ length-append before text in
    let lt = ap length f ∙ length-append bytes behind in
    let P : List ℕ → Type 0 = λ l. Spells l kind in
    record {
      ordered = omega arith;
      within = omega arith;
      spells = subst P (sym (spelling_there before bytes behind whole text e f)) s;
    }

-- each token of what is left of a text is spelled there
spelled_behind : {whole text rest : List ℕ} {tokens : List Token} (before : List ℕ) → whole ≡ before ++ text →
    BeginsWith whole text tokens rest → All (IsSpelledWithin whole) tokens
spelled_behind {whole = whole} before e stops = All-nil (IsSpelledWithin whole)
spelled_behind before e (blank {byte = byte} {text = text} b r) =
    spelled_behind (before ++ byte ∷ []) (e ∙ sym (append_assoc before (byte ∷ []) text)) r
spelled_behind before e (comment {behind = behind} c r) =
    let x = before_end c in
    spelled_behind (before ++ (40 ∷ 42 ∷ x.0))
    (e ∙ ap (λ l. before ++ (40 ∷ 42 ∷ l)) x.1 ∙ sym (append_assoc before (40 ∷ 42 ∷ x.0) behind)) r
spelled_behind {whole = whole} before e (token {text = text} {behind = behind} {tokens = tokens} bytes kind f s l n r) =
    All-cons (IsSpelledWithin whole) (record { kind = kind; start = place whole text; end = place whole behind }) tokens
    (spelled_at before bytes behind kind whole text e f s)
    (spelled_behind (before ++ bytes) (e ∙ ap (λ l. before ++ l) f ∙ sym (append_assoc before bytes behind)) r)

-- each token of a text is spelled there
pub tokens_spelled : {text : List ℕ} {tokens : List Token} → HasTokens text tokens → All (IsSpelledWithin text) tokens
tokens_spelled h = spelled_behind [] refl h.spelled

pub token_within : {text : List ℕ} {tokens : List Token} → HasTokens text tokens →
    All (λ t. (t.start ≤ t.end) × (t.end ≤ length text)) tokens
token_within {text = text} {tokens = tokens} h =
    All-weaker (IsSpelledWithin text) (λ t. (t.start ≤ t.end) × (t.end ≤ length text)) (λ t s. (s.ordered, s.within)) tokens
    (tokens_spelled h)

pub alphabetic_alphanumeric : (byte : ℕ) → IsTrue (is_ascii_alphabetic byte) → IsTrue (is_ascii_alphanumeric byte)
alphabetic_alphanumeric byte h =
    let digit = is_in_range 48 57 byte in
    let upper = is_in_range 65 90 byte in
    let lower = is_in_range 97 122 byte in
    ⊎_elim (λ (u : upper ≡ true). or_left (digit || upper) lower (or_right digit upper u))
    (λ (l : lower ≡ true). or_right (digit || upper) lower l)
    (or_cases upper lower h)

-- a name is letters and digits
pub ident_bytes : {bytes : List ℕ} {kind : Kind} → Spells bytes kind → kind ≡ Ident →
    IsTrue (list_all is_ascii_alphanumeric bytes) × (0 < length bytes)
ident_bytes (fixed e) h = let f = sym (ap fixed_spelling h) ∙ e in cc
ident_bytes (name {first = first} {rest = rest} l r k) h =
    (and_from (is_ascii_alphanumeric first) (list_all is_ascii_alphanumeric rest) (alphabetic_alphanumeric first l) r, omega arith)
ident_bytes (number d) h = cc

-- a number is digits
pub number_bytes : {bytes : List ℕ} {kind : Kind} → Spells bytes kind → kind ≡ Number →
    IsTrue (list_all is_ascii_digit bytes) × (0 < length bytes)
number_bytes (fixed e) h = let f = sym (ap fixed_spelling h) ∙ e in cc
number_bytes (name l r k) h = cc
number_bytes (number d) h = (d, omega arith)

pub ident_spelled : {text : List ℕ} {tokens : List Token} → HasTokens text tokens →
    All (λ t. t.kind ≡ Ident → IsTrue (list_all is_ascii_alphanumeric (spelling text t))) tokens
ident_spelled {text = text} {tokens = tokens} h =
    All-weaker (IsSpelledWithin text) (λ t. t.kind ≡ Ident → IsTrue (list_all is_ascii_alphanumeric (spelling text t)))
    (λ t s e. (ident_bytes s.spells e).0) tokens (tokens_spelled h)

-- a name has a byte, and is no longer than the limit
pub ident_length : {text : List ℕ} {tokens : List Token} → HasTokens text tokens →
    All (λ t. t.kind ≡ Ident → (0 < length (spelling text t)) × (length (spelling text t) ≤ longest_name)) tokens
ident_length {text = text} {tokens = tokens} h k d below e =
    ((ident_bytes (tokens_spelled h k d below).spells e).1, (h.limited k d below).0 e)

pub number_spelled : {text : List ℕ} {tokens : List Token} → HasTokens text tokens →
    All (λ t. t.kind ≡ Number →
    IsTrue (list_all is_ascii_digit (spelling text t)) × (number_value (spelling text t) ≤ largest_number)) tokens
number_spelled {text = text} {tokens = tokens} h k d below e =
    ((number_bytes (tokens_spelled h k d below).spells e).0, (h.limited k d below).1 e)

-- a number has a digit
pub number_filled : {text : List ℕ} {tokens : List Token} → HasTokens text tokens →
    All (λ t. t.kind ≡ Number → 0 < length (spelling text t)) tokens
number_filled h k d below e = (number_bytes (tokens_spelled h k d below).spells e).1

all_spelled : (text : List ℕ) (tokens : List Token) → All (IsSpelledWithin text) tokens → All (KeepsLimits text) tokens →
    All IsSpelled (lexemes text tokens)
all_spelled text [] s l = All-nil IsSpelled
all_spelled text (t ∷ ts) s l =
    let first = All-head (IsSpelledWithin text) t ts s in
    let limits = All-head (KeepsLimits text) t ts l in
    All-cons IsSpelled (lexeme t.kind t.start (spelling text t)) (lexemes text ts) (spelled first.spells limits.0 limits.1)
    (all_spelled text ts (All-tail (IsSpelledWithin text) t ts s) (All-tail (KeepsLimits text) t ts l))

-- the tokens of a text with their bytes are spelled within the limits
pub lexemes_spelled : {text : List ℕ} {tokens : List Token} → HasTokens text tokens → All IsSpelled (lexemes text tokens)
lexemes_spelled {text = text} {tokens = tokens} h = all_spelled text tokens (tokens_spelled h) h.limited
