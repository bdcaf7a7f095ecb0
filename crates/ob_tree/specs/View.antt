-- What the engine over a tree stands for: the engine over the code of the scheme, of whatever length, with its budget.
use Rattle.ob_checked.specs.CheckedModule.{program_in}
use Rattle.ob_code_correct.specs.CodeMeaning.{EngineParts}
use Rattle.ob_code_correct.specs.Compiled.{parts_of}
use Rattle.ob_tree.specs.declared.engine.TreeEngine.{TreeEngine}

abbrev pub tree_parts_in : TreeEngine → EngineParts
tree_parts_in e = parts_of (program_in e.checked.now) e.budget
