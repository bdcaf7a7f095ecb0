-- Which kinds of token could stand where the tokens of a text begin no module any more.
use Rattle.std.specs.Prelude.{ℕ, ◌-◌, ◌≤◌, List, [], ◌∷◌, ◌++◌, length, take, codes}
use Rattle.ob_scan.specs.declared.token.Kind.{Kind}
use Rattle.ob_scan.specs.declared.token.Token.{Token}
use Rattle.ob_scan.specs.Limits.{longest_text}
use Rattle.ob_scan.specs.Tokens.{HasTokens, TokenizedText}
use Rattle.ob_grammar.specs.Grammar.{BeginsModule}
use Rattle.ob_parser.specs.ParseFaults.{BeginsGoodModule, HasPlace, lexemes_of}
use Rattle.ob_explain_sentences.specs.Kinds.{kinds, sample}

-- The tokens of a text begin a module, by the productions alone. Those before the last one begin one that keeps the conditions too:
-- so it is for the last one alone that a condition may break, as where a name stands behind END that is not the module's.
pub record GoesOn (t : TokenizedText) : Type 0 where
  pub before : BeginsGoodModule (take (length t.tokens - 1) (lexemes_of t))
  pub begins : BeginsModule (lexemes_of t)

-- the last token of a text stands at this place
abbrev pub IsLastAt : TokenizedText → ℕ → Type 0
IsLastAt t place = HasPlace (lexemes_of t) (length t.tokens - 1) place

-- a text that is not too long has tokens, and goes on
pub record CanGoOn (text : List ℕ) : Type 0 where
  pub short : length text ≤ longest_text
  pub tokens : List Token
  pub scanned : HasTokens text tokens
  pub goes_on : GoesOn (record { text = text; tokens = tokens })

-- the text before a place, and behind a blank a token of this kind
abbrev pub tried : List ℕ → ℕ → Kind → List ℕ
tried text at kind = take at text ++ codes " " ++ sample kind

-- A kind is expected at a place where the text before it goes on with a token of this kind.
abbrev pub IsExpected : List ℕ → ℕ → Kind → Type 0
IsExpected text at kind = CanGoOn (tried text at kind)

-- of some kinds those that are expected, in their order
pub data Expected (text : List ℕ) (at : ℕ) : (all expected : List Kind) → Type 0 where
  none : Expected text at [] []
  stands : {kind : Kind} {all expected : List Kind} →
      IsExpected text at kind → Expected text at all expected → Expected text at (kind ∷ all) (kind ∷ expected)
  missing : {kind : Kind} {all expected : List Kind} →
      ¬ IsExpected text at kind → Expected text at all expected → Expected text at (kind ∷ all) expected

-- of all kinds
abbrev pub AreExpected : List ℕ → ℕ → List Kind → Type 0
AreExpected text at expected = Expected text at kinds expected
