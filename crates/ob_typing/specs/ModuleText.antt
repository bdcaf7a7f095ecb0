-- What the text of a module is.
use Rattle.std.specs.Prelude.{ℕ, ◌≤◌, List, length}
use Rattle.ob_scan.specs.Limits.{longest_text}
use Rattle.ob_grammar.specs.Texts.{IsTextOf}
use Rattle.ob_grammar.specs.Tree
use Rattle.ob_typing.specs.Declarations.{WellTyped}
use Rattle.ob_typing.specs.Program.{Program}

-- the text, which is not over the limit, stands for this checked program
pub record IsModule (text : List ℕ) (program : Program) : Type 0 where
  pub short : length text ≤ longest_text
  pub tree : Tree.Module
  pub text_of : IsTextOf text tree
  pub typed : WellTyped tree program
