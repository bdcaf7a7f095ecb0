-- A scanner as a source.
use Rattle.std.specs.Prelude.{◌≡◌, ℕ, suc, ◌+◌, ◌-◌, ◌≤◌, List, length, take, Option, Some, None, IfSome}
use Rattle.ob_scan.specs.Tokens.{HasTokens, TokenizedText}
use Rattle.ob_scan.specs.declared.token.Lent.{Lent}
use Rattle.ob_scan.specs.declared.token.Token.{Token}
use Rattle.ob_scan.specs.Lexemes.{Lexeme, IsSpelled}
use Rattle.ob_scan.specs.Scanners.{ScannedText, HasGiven, GivesToken}
use Rattle.ob_scan.specs.Sources.{State, Stands}

-- a scanner, and the last token that it gave, where it gave one: that token is not read yet
pub record Scan : Type 0 where
  pub scanner : ScannedText
  pub here : Option Lexeme

-- a scanner has given some tokens
pub record HasGivenSome (s : ScannedText) : Type 0 where
  pub tokens : List Token
  pub given : HasGiven s tokens

-- a text has tokens
pub record HasSomeTokens (text : List ℕ) : Type 0 where
  pub tokens : List Token
  pub all : HasTokens text tokens

-- the text has so many bytes, some tokens of it were given, and the last one is spelled within the limits
pub record IsScan (end : ℕ) (s : Scan) : Type 0 where
  pub ends : end ≡ length s.scanner.text
  pub given : HasGivenSome s.scanner
  pub spelled : IfSome s.here IsSpelled

-- the scanner has given the tokens of the text that are read, and the next one, where there is one
pub record GivesNext (s : Scan) (source : TokenizedText) (position : ℕ) : Type 0 where
  pub all : HasTokens source.text source.tokens
  pub within : position ≤ length source.tokens
  pub given : HasGiven s.scanner (take (suc position) source.tokens)

abbrev pub looked_at : Option Lexeme → ℕ
looked_at None = 0
looked_at (Some t) = 1

-- what is left: the bytes behind the last token that was given, and that token
abbrev pub scanned : Scan → State
scanned s =
    record {
      text = s.scanner.text;
      here = s.here;
      left = (length s.scanner.text - s.scanner.at) + looked_at s.here;
      gives = GivesNext s;
    }

-- a source of this text, none of whose tokens are read
pub record Begins (text : List ℕ) (s : Scan) : Type 0 where
  pub same : s.scanner.text ≡ text
  pub stands : (tokens : List Token) → HasTokens text tokens → Stands (scanned s) (record { text = text; tokens = tokens }) 0

-- no token is given: those that were given are all that the text may have
pub record GivesNone (s after : ScannedText) : Type 0 where
  pub same_text : after.text ≡ s.text
  pub same_place : after.at ≡ s.at
  pub given : (tokens : List Token) → HasGiven s tokens → HasGiven after tokens
  pub all : (tokens others : List Token) → HasGiven s tokens → HasTokens s.text others → others ≡ tokens

-- what is seen of the next token
abbrev pub Looks : ScannedText → Option Lent → ScannedText → Type 0
Looks s (Some t) after = GivesToken s t after
Looks s None after = GivesNone s after
