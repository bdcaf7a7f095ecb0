-- What a module that goes on with some tokens says of fewer of them.
use Rattle.std.proofs.Common.{◌≡◌, ℕ, suc, ◌-◌, ◌<◌, ◌≤◌, List, [], ◌∷◌, ◌++◌, length, take, drop, refl, sym, ◌∙◌, ap, subst, arith, append_assoc, inl, inr, true, false, IsTrue, Some, Bool}
use Rattle.std.specs.Prelude.{◌⊎◌, ◌↔◌, slice_get, option_map, Option, None, Contains}
use Rattle.std.proofs.lemmas.List.{take-append-drop, append-nil, length-map, take-take, take_all}
use Rattle.std.proofs.lemmas.Bool.{false≢true}
use Rattle.std.proofs.lemmas.Option.{slice_get_within}
use Rattle.ob_scan.specs.Tokens.{HasTokens, TokenizedText}
use Rattle.ob_grammar.specs.Tree.{Module}
use Rattle.ob_grammar.specs.Grammar.{Lexemes, Derives, BeginsModule}
use Rattle.ob_scan.specs.declared.token.Token.{Token}
use Rattle.ob_scan.specs.Lexemes.{Lexeme, lexeme, place_of}
use Rattle.ob_scan.specs.Tokens.{spelling}
use Rattle.ob_grammar.specs.EndNamesAndNesting.{Breach, KeepsConditions, breaches}
use Rattle.ob_parser.specs.ParseFaults.{BeginsGoodModule, BreaksCondition, HasPlace, RefusesEnd, RefusesToken, lexemes_of}
use Rattle.ob_explain_names.specs.Expected.{GoesOn, IsLastAt}
use Rattle.ob_explain_names.proofs.Places.{one_place, place_in_text}

joined : (n : ℕ) (tokens more : Lexemes) → take n tokens ++ (drop n tokens ++ more) ≡ tokens ++ more
joined n tokens more = sym (append_assoc (take n tokens) (drop n tokens) more) ∙ ap (λ l. l ++ more) (take-append-drop n tokens)

-- fewer tokens begin a module too
pub fewer : (n : ℕ) (tokens : Lexemes) → BeginsModule tokens → BeginsModule (take n tokens)
fewer n tokens b =
    (drop n tokens ++ b.0, b.1, subst (λ (l : Lexemes). Derives l b.1) (sym (joined n tokens b.0)) b.2)

pub fewer_well : (n : ℕ) (tokens : Lexemes) → BeginsGoodModule tokens → BeginsGoodModule (take n tokens)
fewer_well n tokens b =
    (drop n tokens ++ b.0, b.1, subst (λ (l : Lexemes). Derives l b.1) (sym (joined n tokens b.0)) b.2, b.3)

begun : (tokens : Lexemes) → BeginsGoodModule tokens → BeginsModule tokens
begun tokens b = (b.0, b.1, b.2)

-- a module that goes on with tokens goes on with them but for the last
pub goes_on_well : (t : TokenizedText) → BeginsGoodModule (lexemes_of t) → GoesOn t
goes_on_well t b = record { before = fewer_well (length t.tokens - 1) (lexemes_of t) b; begins = begun (lexemes_of t) b }

pub goes_on_whole : (t : TokenizedText) (m : Module) → Derives (lexemes_of t) m → KeepsConditions m → GoesOn t
goes_on_whole t m d k =
    goes_on_well t ([], m, subst (λ (l : Lexemes). Derives l m) (sym (append-nil (lexemes_of t))) d, k)

pub refused : (t : TokenizedText) (place : ℕ) → RefusesToken (lexemes_of t) place → GoesOn t → ⊥
refused t place r g = r.none (fewer (suc r.index) (lexemes_of t) g.begins)

length_of : (t : TokenizedText) → length (lexemes_of t) ≡ length t.tokens
length_of t = length-map t.tokens (λ (x : Token). lexeme x.kind x.start (spelling t.text x))

within_of : (o : Option Lexeme) (place : ℕ) → option_map place_of o ≡ Some place → (x : Lexeme) × (o ≡ Some x)
within_of None place e = absurd (cc)
within_of (Some x) place e = (x, refl)

place_within : (tokens : Lexemes) (i place : ℕ) → HasPlace tokens i place → i < length tokens
place_within tokens i place h =
    let x = within_of (slice_get tokens i) place h in slice_get_within tokens i x.0 x.1

none_contained : (all : List Breach) (b : Breach) → all ≡ [] → Contains all b → ⊥
none_contained [] b e c = omega (arith, c.1)
none_contained (x ∷ all) b e c = cc

pub breaks_none : (m : Module) (b : Breach) → KeepsConditions m → Contains (breaches m) b → ⊥
breaks_none m b k c = none_contained (breaches m) b k c

-- a condition breaks at the last token, so the tokens go on
pub broken_last : {IsBroken : Module → ℕ → Type 0} (t : TokenizedText) (place : ℕ) → HasTokens t.text t.tokens →
    BreaksCondition IsBroken (lexemes_of t) place → IsLastAt t place → GoesOn t
broken_last t place h b last =
    let tokens = lexemes_of t in
    let n = length_of t in
    let here = place_within tokens b.index place b.there in
    let there = place_within tokens (length t.tokens - 1) place last in
    let first : b.index < length t.tokens - 1 → ⊥ = one_place t h b.index (length t.tokens - 1) place b.there last in
    let index : b.index ≡ length t.tokens - 1 = omega arith in
    let all : length tokens ≤ suc b.index = omega arith in
    record {
      before = subst (λ (i : ℕ). BeginsGoodModule (take i tokens)) index b.before;
      begins = subst BeginsModule (take_all (suc b.index) tokens all) b.some;
    }

-- a condition breaks before the last token, so they don't
pub broken_before : {IsBroken : Module → ℕ → Type 0} (t : TokenizedText) (place : ℕ) → ((m : Module) → KeepsConditions m → IsBroken m place → ⊥) →
    BreaksCondition IsBroken (lexemes_of t) place → (IsLastAt t place → ⊥) → GoesOn t → ⊥
broken_before t place none b not g =
    let tokens = lexemes_of t in
    let n = length_of t in
    let here = place_within tokens b.index place b.there in
    let other : b.index ≡ length t.tokens - 1 → ⊥ = λ e. not (subst (λ (i : ℕ). HasPlace tokens i place) e b.there) in
    let less : suc b.index ≤ length t.tokens - 1 = omega arith in
    let w = fewer_well (suc b.index) (take (length t.tokens - 1) tokens) g.before in
    let same = take-take (suc b.index) (length t.tokens - 1) tokens less in
    none w.1 w.3 (b.broken w.0 w.1 (subst (λ (l : Lexemes). Derives (l ++ w.0) w.1) same w.2))

-- a token is unexpected or the end, and just the end stands at the end
pub unexpected : (t : TokenizedText) (place : ℕ) (b : Bool) → HasTokens t.text t.tokens → (b ≡ true → place ≡ length t.text) → (place ≡ length t.text → b ≡ true) →
    RefusesToken (lexemes_of t) place ⊎ RefusesEnd (lexemes_of t) (length t.text) place → (IsTrue b) ↔ (GoesOn t)
unexpected t place b h is at (inl r) =
    let w = place_in_text t h r.index place r.there in
    (λ e. let p = is e in absurd (omega arith), λ g. absurd (refused t place r g))
unexpected t place b h is at (inr r) = (λ e. goes_on_well t r.before, λ g. at r.there)

decides : (b : Bool) → (b ≡ true) ⊎ (b ≡ false)
decides true = inl refl
decides false = inr refl

-- a condition is broken at the last token or before it
pub broken : {IsBroken : Module → ℕ → Type 0} (t : TokenizedText) (place : ℕ) (b : Bool) → HasTokens t.text t.tokens →
    ((m : Module) → KeepsConditions m → IsBroken m place → ⊥) → (IsTrue b) ↔ (IsLastAt t place) →
    BreaksCondition IsBroken (lexemes_of t) place → (IsTrue b) ↔ (GoesOn t)
broken t place b h none is breaks = (
  λ e. broken_last t place h breaks (is.0 e),
  λ g. elim (decides b) [
    | inl here ↦ here
    | inr other ↦ absurd (broken_before t place none breaks (λ last. false≢true (sym other ∙ is.1 last)) g)
  ],
)
