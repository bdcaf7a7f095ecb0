-- The tokens of a text stand one behind the other, so a place is that of one token at most.
use Rattle.std.proofs.Common.{◌≡◌, ℕ, suc, zero, ◌<◌, ◌≤◌, List, [], ◌∷◌, ◌++◌, length, refl, sym, ◌∙◌, ap, arith, Option, Some, None, option_map, length-append}
use Rattle.std.specs.Prelude.{slice_get}
use Rattle.std.proofs.lemmas.Option.{same_Some, slice_get-map}
use Rattle.std.proofs.lemmas.Bool.{false≢true}
use Rattle.ob_scan.specs.declared.token.Kind.{Kind}
use Rattle.ob_scan.specs.declared.token.Token.{Token}
use Rattle.ob_scan.specs.Lexemes.{Lexeme, lexeme, place_of}
use Rattle.ob_scan.specs.Spelling.{Spells}
use Rattle.ob_scan.specs.Tokens.{BeginsWith, stops, blank, comment, token, place, spelling, HasTokens, TokenizedText}
use Rattle.ob_scan.proofs.Spellings.{spells_shape}
use Rattle.ob_scan.proofs.TokenFacts.{before_end}
use Rattle.ob_parser.specs.ParseFaults.{HasPlace, lexemes_of}

-- a spelling has a byte at least
filled : {kind : Kind} (bytes : List ℕ) → Spells bytes kind → 0 < length bytes
filled [] s = absurd (false≢true (spells_shape s))
filled (x ∷ bytes) s = omega arith

shorter : (text before rest : List ℕ) → text ≡ before ++ rest → length rest ≤ length text
shorter text before rest e = omega (arith, ap length e, length-append before rest)

-- no token begins before what is left
from_here : {whole text rest : List ℕ} {tokens : List Token} → BeginsWith whole text tokens rest → length text ≤ length whole →
    (i : ℕ) (t : Token) → slice_get tokens i ≡ Some t → place whole text ≤ t.start
from_here stops w i t is = absurd (cc)
from_here {whole = whole} (blank {byte = byte} {text = text} b r) w i t is =
    let h = from_here r (omega arith) i t is in omega arith
from_here {whole = whole} (comment {text = text} {behind = behind} c r) w i t is =
    let x = before_end c in
    let n = shorter text x.0 behind x.1 in
    let h = from_here r (omega arith) i t is in omega arith
from_here (token bytes kind e s l n r) w zero t is = omega (arith, ap (λ (x : Token). x.start) (same_Some _ _ is))
from_here {whole = whole} {text = text} (token {behind = behind} bytes kind e s l n r) w (suc i) t is =
    let m = shorter text bytes behind e in
    let h = from_here r (omega arith) i t is in omega arith

-- and each begins within the text
starts_within : {whole text rest : List ℕ} {tokens : List Token} → BeginsWith whole text tokens rest → length text ≤ length whole →
    (i : ℕ) (t : Token) → slice_get tokens i ≡ Some t → t.start < length whole
starts_within stops w i t is = absurd (cc)
starts_within (blank c r) w i t is = starts_within r (omega arith) i t is
starts_within (comment {text = text} {behind = behind} c r) w i t is =
    let x = before_end c in
    let n = shorter text x.0 behind x.1 in
    starts_within r (omega arith) i t is
starts_within {whole = whole} {text = text} (token {behind = behind} bytes kind e s l n r) w zero t is =
    let more = filled bytes s in
    let size = ap length e ∙ length-append bytes behind in
    omega (arith, ap (λ (x : Token). x.start) (same_Some _ _ is))
starts_within {text = text} (token {behind = behind} bytes kind e s l n r) w (suc i) t is =
    let m = shorter text bytes behind e in
    starts_within r (omega arith) i t is

-- each token begins behind the beginnings of those before it
rising : {whole text rest : List ℕ} {tokens : List Token} → BeginsWith whole text tokens rest → length text ≤ length whole →
    (i j : ℕ) (a b : Token) → i < j → slice_get tokens i ≡ Some a → slice_get tokens j ≡ Some b → a.start < b.start
rising stops w i j a b lt is there = absurd (cc)
rising (blank c r) w i j a b lt is there = rising r (omega arith) i j a b lt is there
rising (comment {text = text} {behind = behind} c r) w i j a b lt is there =
    let x = before_end c in
    let n = shorter text x.0 behind x.1 in
    rising r (omega arith) i j a b lt is there
rising (token bytes kind e s l n r) w zero zero a b lt is there = absurd (omega arith)
rising {whole = whole} {text = text} (token {behind = behind} bytes kind e s l n r) w zero (suc j) a b lt is there =
    let first = ap (λ (x : Token). x.start) (same_Some _ _ is) in
    let more = filled bytes s in
    let size = ap length e ∙ length-append bytes behind in
    let h = from_here r (omega arith) j b there in omega arith
rising (token bytes kind e s l n r) w (suc i) zero a b lt is there = absurd (omega arith)
rising {text = text} (token {behind = behind} bytes kind e s l n r) w (suc i) (suc j) a b lt is there =
    let m = shorter text bytes behind e in
    rising r (omega arith) i j a b (omega arith) is there

-- the token at a place
record At (tokens : List Token) (i p : ℕ) : Type 0 where
  there : Token
  is : slice_get tokens i ≡ Some there
  start : there.start ≡ p

start_of : (text : List ℕ) (o : Option Token) (p : ℕ) → option_map place_of (option_map (λ (t : Token). lexeme t.kind t.start (spelling text t)) o) ≡ Some p →
    (t : Token) × (o ≡ Some t) × (t.start ≡ p)
start_of text None p e = absurd (cc)
start_of text (Some t) p e = (t, refl, same_Some _ _ e)

at_place : (t : TokenizedText) (i p : ℕ) → HasPlace (lexemes_of t) i p → At t.tokens i p
at_place t i p h =
    let f : Token → Lexeme = λ x. lexeme x.kind x.start (spelling t.text x) in
    let s = start_of t.text (slice_get t.tokens i) p (ap (option_map place_of) (sym (slice_get-map f t.tokens i)) ∙ h) in
    record { there = s.0; is = s.1; start = s.2 }

pub one_place : (t : TokenizedText) → HasTokens t.text t.tokens → (i j p : ℕ) → HasPlace (lexemes_of t) i p → HasPlace (lexemes_of t) j p → i < j → ⊥
one_place t h i j p here there lt =
    let a = at_place t i p here in
    let b = at_place t j p there in
    let r = rising h.spelled (omega arith) i j a.there b.there lt a.is b.is in
    omega (arith, a.start, b.start)

pub place_in_text : (t : TokenizedText) → HasTokens t.text t.tokens → (i p : ℕ) → HasPlace (lexemes_of t) i p → p < length t.text
place_in_text t h i p here =
    let a = at_place t i p here in
    let w = starts_within h.spelled (omega arith) i a.there a.is in
    omega (arith, a.start)
