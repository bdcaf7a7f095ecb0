-- The names among the tokens of a text are names, and names are words.
use Rattle.std.proofs.Common.{◌≡◌, ℕ, true, false, ◌==◌, List, [], ◌∷◌, ◌++◌, All, map, flat_map, refl, sym, ap, subst, arith}
use Rattle.std.specs.Char.{is_ascii_alphanumeric}
use Rattle.std.specs.List.{AllByRecursion, list_all}
use Rattle.std.specs.Option.{unwrap_or}
use Rattle.std.proofs.lemmas.Bool.{and_parts}
use Rattle.std.proofs.lemmas.Bool.Decides.{nat_tests}
use Rattle.std.proofs.lemmas.List.Elements.{All-head, All-tail}
use Rattle.ob_grammar.specs.Grammar.{Lexemes}
use Rattle.ob_grammar.specs.Tree as Tree
use Rattle.ob_scan.proofs.TokenFacts.{ident_bytes}
use Rattle.ob_scan.specs.declared.token.Kind.{Kind}
use Rattle.ob_scan.specs.Lexemes.{Lexeme, lexeme, IsSpelled, spelled}
use Rattle.ob_scan.specs.Spelling.{Spells, fixed_spelling}
use Rattle.ob_syntax.proofs.Worded.{free_bytes, word_of}
use Rattle.ob_syntax.specs.Printing as Printing
use Rattle.ob_syntax.specs.Printing.{fixed, ident, name_words}
use Rattle.ob_laws.proofs.Words.{IsClean, IsWord, clean_more, clean_none}
use Rattle.ob_text_words.specs.Words.{IsName, Word, is_blank}

-- ---- letters and digits are a word

no_blank_byte : (b : ℕ) → is_ascii_alphanumeric b ≡ true → is_blank b ≡ false
no_blank_byte b h = grind (arith, nat_tests)

no_feed_byte : (b : ℕ) → is_ascii_alphanumeric b ≡ true → (b == 10) ≡ false
no_feed_byte b h = grind (arith, nat_tests)

letters_clean : (bytes : List ℕ) → list_all is_ascii_alphanumeric bytes ≡ true → IsClean bytes
letters_clean [] h = clean_none
letters_clean (b ∷ bytes) h =
    let parts = and_parts (is_ascii_alphanumeric b) (list_all is_ascii_alphanumeric bytes) h in
    clean_more b bytes (no_blank_byte b parts.0) (no_feed_byte b parts.0) (letters_clean bytes parts.1)

pub name_word : (name : Word) → IsName name → IsWord name
name_word name h =
    let parts = ident_bytes h refl in
    record { some = omega (arith, parts.1); clean = letters_clean name parts.0 }

-- ---- each name among the tokens of a module

abbrev pub IsNamed : Printing.Word → Type 0
IsNamed w = w.kind ≡ Kind.Ident → IsName w.bytes

abbrev pub AreNamed : List Printing.Word → Type 0
AreNamed ws = AllByRecursion IsNamed ws

token_named : (token : Lexeme) → IsSpelled token → IsNamed (word_of token)
token_named (lexeme kind place bytes) (spelled spells short small) is =
    let same : unwrap_or (fixed_spelling kind) (free_bytes kind bytes) ≡ bytes = ap (λ (k : Kind). unwrap_or (fixed_spelling k) (free_bytes k bytes)) is in
    subst IsName (sym same) (subst (λ (k : Kind). Spells bytes k) is spells)

pub tokens_named : (tokens : Lexemes) → All IsSpelled tokens → AreNamed (map word_of tokens)
tokens_named [] h = tt
tokens_named (token ∷ tokens) h = (token_named token (All-head IsSpelled token tokens h), tokens_named tokens (All-tail IsSpelled token tokens h))

pub left : {X : Type 0} (P : X → Type 0) (xs ys : List X) → AllByRecursion P (xs ++ ys) → AllByRecursion P xs
left P [] ys h = tt
left P (x ∷ xs) ys h = (h.0, left P xs ys h.1)

pub right : {X : Type 0} (P : X → Type 0) (xs ys : List X) → AllByRecursion P (xs ++ ys) → AllByRecursion P ys
right P [] ys h = h
right P (x ∷ xs) ys h = right P xs ys h.1

pub both : {X : Type 0} (P : X → Type 0) (xs ys : List X) → AllByRecursion P xs → AllByRecursion P ys → AllByRecursion P (xs ++ ys)
both P [] ys h k = k
both P (x ∷ xs) ys h k = (h.0, both P xs ys h.1 k)

abbrev pub AreNames : List Tree.Name → Type 0
AreNames names = AllByRecursion (λ (x : Tree.Name). IsName x.text) names

names_behind : (names : List Tree.Name) → AreNamed (flat_map (λ (y : Tree.Name). fixed Kind.Comma ∷ ident y ∷ []) names) → AreNames names
names_behind [] h = tt
names_behind (x ∷ names) h = (h.1.0 refl, names_behind names h.1.1)

pub names_listed : (names : List Tree.Name) → AreNamed (name_words names) → AreNames names
names_listed [] h = tt
names_listed (x ∷ names) h = (h.0 refl, names_behind names h.1)
