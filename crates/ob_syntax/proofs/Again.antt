-- The printed text of a module leads back to that module, but for places.
use Rattle.std.proofs.Common.{◌≡◌, ℕ, ◌<◌, ◌≤◌, ◌^◌, List, [], ◌∷◌, length, map, refl, sym, ◌∙◌, ap, subst, arith}
use Rattle.std.specs.List.{All}
use Rattle.std.specs.Option.{unwrap_or}
use Rattle.std.specs.Fmt.{decimal}
use Rattle.std.proofs.lemmas.Fmt.{digits_decimal, digits_value-decimal, decimal_nonempty}
use Rattle.std.proofs.lemmas.List.Elements.{All-nil, All-cons, All-head, All-tail}
use Rattle.ob_scan.specs.declared.token.Kind.{Kind}
use Rattle.ob_scan.specs.Limits.{largest_number}
use Rattle.ob_scan.specs.declared.token.Token.{Token}
use Rattle.ob_scan.specs.Spelling as Spelling
use Rattle.ob_scan.specs.Spelling.{Spells, fixed_spelling, number_value}
use Rattle.ob_scan.specs.Tokens.{spelling}
use Rattle.ob_scan.specs.Lexemes.{Lexeme, lexeme, IsSpelled, spelled, lexemes}
use Rattle.ob_scan.proofs.Numerals.{AreDigits, numerals}
use Rattle.ob_grammar.specs.Tree.{Module}
use Rattle.ob_grammar.specs.Grammar.{Lexemes}
use Rattle.ob_grammar.specs.EndNamesAndNesting.{KeepsConditions}
use Rattle.ob_grammar.specs.Texts.{HasText}
use Rattle.ob_syntax.specs.Printing.{Word, fixed, words_behind, printed}
use Rattle.ob_syntax.specs.PrintedAgain.{LeadsTo}
use Rattle.ob_syntax.proofs.Alike.{Alike, none, more, derives_alike}
use Rattle.ob_syntax.proofs.BareConditions.{keeps_bare}
use Rattle.ob_syntax.proofs.SpacedTokens.{IsWord, spaced_tokens}
use Rattle.ob_syntax.proofs.Worded.{word_of, free_bytes, derived_words}

-- the digits of a number spell it

digits_spell : (ds : List ℕ) → AreDigits ds → 0 < length ds → Spells ds Kind.Number
digits_spell [] h some = absurd (omega arith)
digits_spell (d ∷ ds) h some = Spelling.number h

decimal_spells : (n : ℕ) → n ≤ largest_number → Spells (decimal n) Kind.Number
decimal_spells n h =
    let small : n < 2 ^ 64 = omega arith in
    digits_spell (decimal n) (digits_decimal numerals n small) (decimal_nonempty n small)

decimal_value : (n : ℕ) → n ≤ largest_number → number_value (decimal n) ≡ n
decimal_value n h = digits_value-decimal numerals n (omega arith)

-- each word is spelled within the limits

spelled_word : {t : Lexeme} → IsSpelled t → IsWord (word_of t)
spelled_word (spelled {kind = kind} {bytes = bytes} (Spelling.fixed e) name number) =
    let P : List ℕ → Type 0 = λ own. IsWord (record { kind = kind; bytes = own }) in
    let same : unwrap_or (fixed_spelling kind) (free_bytes kind bytes) ≡ bytes = ap (λ s. unwrap_or s (free_bytes kind bytes)) e in
    subst P (sym same) (record { spells = Spelling.fixed e; name = name; number = number })
spelled_word (spelled (Spelling.name l r k) name number) = record { spells = Spelling.name l r k; name = name; number = number }
spelled_word (spelled (Spelling.number {first = first} {rest = rest} d) name number) =
    let n = number_value (first ∷ rest) in
    let small : n ≤ largest_number = number refl in
    let value = decimal_value n small in
    record { spells = decimal_spells n small; name = λ h. absurd (cc); number = λ h. omega arith }

spelled_words : (ts : Lexemes) → All IsSpelled ts → All IsWord (map word_of ts)
spelled_words [] all = All-nil IsWord
spelled_words (t ∷ ts) all =
    All-cons IsWord (word_of t) (map word_of ts) (spelled_word (All-head IsSpelled t ts all)) (spelled_words ts (All-tail IsSpelled t ts all))

-- a token that is spelled as another is printed is alike

abbrev printed_bytes : List ℕ → Kind → List ℕ
printed_bytes bytes kind = unwrap_or (fixed_spelling kind) (free_bytes kind bytes)

same_value : {kind : Kind} {place : ℕ} {bytes own : List ℕ} → IsSpelled (lexeme kind place bytes) → own ≡ printed_bytes bytes kind →
    kind ≡ Kind.Number → number_value bytes ≡ number_value own
same_value {bytes = bytes} (spelled s name number) e h =
    sym (ap number_value (e ∙ ap (printed_bytes bytes) h) ∙ decimal_value (number_value bytes) (number h))

alike_first : {kind : Kind} {place : ℕ} {bytes : List ℕ} {ts us : Lexemes} (other : Kind) (start : ℕ) (own : List ℕ) →
    IsSpelled (lexeme kind place bytes) → other ≡ kind → own ≡ printed_bytes bytes kind → Alike ts us →
    Alike (lexeme kind place bytes ∷ ts) (lexeme other start own ∷ us)
alike_first {kind = kind} {place = place} {bytes = bytes} {ts = ts} {us = us} other start own s k e l =
    let P : Kind → Type 0 = λ x. Alike (lexeme kind place bytes ∷ ts) (lexeme x start own ∷ us) in
    subst P (sym k) (more (λ h. sym (e ∙ ap (printed_bytes bytes) h)) (same_value s e) l)

abbrev as_word : List ℕ → Token → Word
as_word text t = record { kind = t.kind; bytes = spelling text t }

alike_tokens : (text : List ℕ) (tokens : List Token) (ts : Lexemes) → All IsSpelled ts →
    map (as_word text) tokens ≡ map word_of ts → Alike ts (lexemes text tokens)
alike_tokens text [] [] all e = none
alike_tokens text [] (t ∷ ts) all e = absurd (cc)
alike_tokens text (u ∷ us) [] all e = absurd (cc)
alike_tokens text (u ∷ us) (lexeme kind place bytes ∷ ts) all e =
    let first : as_word text u ≡ word_of (lexeme kind place bytes) = cc in
    let rest : map (as_word text) us ≡ map word_of ts = cc in
    alike_first u.kind u.start (spelling text u) (All-head IsSpelled (lexeme kind place bytes) ts all)
    (ap (λ (w : Word). w.kind) first) (ap (λ (w : Word). w.bytes) first)
    (alike_tokens text us ts (All-tail IsSpelled (lexeme kind place bytes) ts all) rest)

-- the printed text of a module that some text has leads to that module, but for places
pub printed_leads : (m : Module) → HasText m → KeepsConditions m → LeadsTo (printed m) m
printed_leads m h keeps =
    let words = derived_words h.derives in
    let all = subst (All IsWord) words (spelled_words h.tokens h.spelled) in
    let s = spaced_tokens (fixed Kind.Module) (words_behind m) all in
    let r = derives_alike h.derives (alike_tokens (printed m) s.0 h.tokens h.spelled (s.2 ∙ sym words)) in
    record {
      tree = r.0;
      read = record { tokens = s.0; scanned = s.1; derives = r.1; keeps = keeps_bare r.0 m r.2 keeps };
      same = r.2;
    }
