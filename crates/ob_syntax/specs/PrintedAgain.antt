-- What a printed text leads to: the same module but for places.
use Rattle.std.specs.Prelude.{◌≡◌, ℕ, List}
use Rattle.ob_grammar.specs.Tree.{Module}
use Rattle.ob_grammar.specs.Texts.{IsTextOf}
use Rattle.ob_syntax.specs.Places.{bare}

-- the token relation and the grammar lead from this text to this module but for places
pub record LeadsTo (text : List ℕ) (m : Module) : Type 0 where
  pub tree : Module
  pub read : IsTextOf text tree
  pub same : bare tree ≡ bare m
