-- Texts of a module: tokens that derive it, and a text that has them.
use Rattle.std.specs.Prelude.{ℕ, List, All}
use Rattle.ob_scan.specs.declared.token.Token.{Token}
use Rattle.ob_scan.specs.Lexemes.{IsSpelled, lexemes}
use Rattle.ob_scan.specs.Tokens.{HasTokens}
use Rattle.ob_grammar.specs.Tree.{Module}
use Rattle.ob_grammar.specs.Grammar.{Lexemes, Derives}
use Rattle.ob_grammar.specs.EndNamesAndNesting.{KeepsConditions}

-- tokens with spellings derive this module
pub record HasText (m : Module) : Type 0 where
  pub tokens : Lexemes
  pub spelled : All IsSpelled tokens
  pub derives : Derives tokens m

-- the text has tokens that derive this module, and it keeps the conditions
pub record IsTextOf (text : List ℕ) (m : Module) : Type 0 where
  pub tokens : List Token
  pub scanned : HasTokens text tokens
  pub derives : Derives (lexemes text tokens) m
  pub keeps : KeepsConditions m
