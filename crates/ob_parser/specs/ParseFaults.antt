-- What each fault of the parser says of a text with its tokens.
use Rattle.std.specs.Prelude.{◌≡◌, ◌⊎◌, ℕ, suc, List, ◌++◌, length, take, slice_get, option_map, Some}
use Rattle.ob_parser.specs.declared.parser.ParseFault.{ParseFault}
use Rattle.ob_parser.specs.declared.parser.ParseFault.TheVariants.{Unexpected, TooDeep, NameDiffers, NoMemory}
use Rattle.ob_scan.specs.Lexemes.{lexemes, place_of}
use Rattle.ob_scan.specs.declared.token.Token.{Token}
use Rattle.ob_scan.specs.Tokens.{HasTokens, TokenizedText}
use Rattle.ob_grammar.specs.Tree.{Module}
use Rattle.ob_grammar.specs.Grammar.{Lexemes, Derives, BeginsModule}
use Rattle.ob_grammar.specs.EndNamesAndNesting.{KeepsConditions, NameDiffersAt, TooDeepAt}

-- the tokens of a text, as the grammar reads them
abbrev pub lexemes_of : TokenizedText → Lexemes
lexemes_of t = lexemes t.text t.tokens

-- some continuation of these tokens derives a module that keeps the conditions
abbrev pub BeginsGoodModule : Lexemes → Type 0
BeginsGoodModule tokens = (more : Lexemes) × (m : Module) × Derives (tokens ++ more) m × KeepsConditions m

-- the token at this index stands at this place
abbrev pub HasPlace : Lexemes → ℕ → ℕ → Type 0
HasPlace tokens index place = option_map place_of (slice_get tokens index) ≡ Some place

-- no module goes on with this token, though one does with those before it
pub record RefusesToken (tokens : Lexemes) (place : ℕ) : Type 0 where
  pub index : ℕ
  pub there : HasPlace tokens index place
  pub before : BeginsGoodModule (take index tokens)
  pub none : BeginsModule (take (suc index) tokens) → ⊥

-- these tokens are no module, though one goes on with them; the place is the text's length
pub record RefusesEnd (tokens : Lexemes) (end place : ℕ) : Type 0 where
  pub there : place ≡ end
  pub before : BeginsGoodModule tokens
  pub none : (m : Module) → Derives tokens m → ⊥

-- a module goes on with this token, and in each that does the token breaks a condition
pub record BreaksCondition (IsBroken : Module → ℕ → Type 0) (tokens : Lexemes) (place : ℕ) : Type 0 where
  pub index : ℕ
  pub there : HasPlace tokens index place
  pub before : BeginsGoodModule (take index tokens)
  pub some : BeginsModule (take (suc index) tokens)
  pub broken : (more : Lexemes) (m : Module) → Derives (take (suc index) tokens ++ more) m → IsBroken m place

abbrev pub IsParseFault : TokenizedText → ParseFault → Type 0
IsParseFault t (Unexpected place) =
    RefusesToken (lexemes_of t) place ⊎ RefusesEnd (lexemes_of t) (length t.text) place
IsParseFault t (TooDeep place) = BreaksCondition TooDeepAt (lexemes_of t) place
IsParseFault t (NameDiffers place) = BreaksCondition NameDiffersAt (lexemes_of t) place
IsParseFault t NoMemory = Unit {0}

-- a parse fault of a text with its tokens
pub record IsParseFaultOf (text : List ℕ) (fault : ParseFault) : Type 0 where
  pub tokens : List Token
  pub scanned : HasTokens text tokens
  pub fails : IsParseFault (record { text = text; tokens = tokens }) fault
