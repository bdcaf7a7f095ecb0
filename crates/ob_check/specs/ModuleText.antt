-- What a fault of the rules says of a text.
use Rattle.std.specs.Prelude.{ℕ, List}
use Rattle.ob_grammar.specs.Texts.{IsTextOf}
use Rattle.ob_grammar.specs.Tree
use Rattle.ob_scopes.specs.declared.fault.CheckFault.{CheckFault}
use Rattle.ob_check.specs.CheckingModules.{IsRefused}

-- the rule that the tree of a text breaks first
pub record IsCheckFaultOf (text : List ℕ) (fault : CheckFault) : Type 0 where
  pub tree : Tree.Module
  pub text_of : IsTextOf text tree
  pub fails : IsRefused fault tree
