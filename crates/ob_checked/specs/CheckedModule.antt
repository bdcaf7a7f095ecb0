-- What a checked module shows: its tree, and its checked program.
use Rattle.ob_grammar.specs.Tree
use Rattle.ob_grammar.specs.View.{module_of}
use Rattle.ob_typing.specs.Program
use Rattle.ob_checked.specs.declared.checked.Checked.{Checked}
use Rattle.ob_checked.specs.View.{program_of}

abbrev pub tree_in : Checked → Tree.Module
tree_in c = module_of c.module

abbrev pub program_in : Checked → Program.Program
program_in c = program_of c.program
