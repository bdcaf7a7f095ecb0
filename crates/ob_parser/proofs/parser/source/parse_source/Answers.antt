use Rattle.std.proofs.Common.{◌≡◌, sym, subst}
use Rattle.ob_grammar.specs.declared.tree.ModuleTree.{ModuleTree}
use Rattle.ob_grammar.specs.Texts.{IsTextOf}
use Rattle.ob_grammar.specs.Tree
use Rattle.ob_grammar.specs.View.{module_of}
use Rattle.ob_parser.proofs.SourceTexts.{has_tree, one_tree, tree_has_text, parse_fault, parsed_none}
use Rattle.ob_parser.proofs.parser.source.parse_source.Goals as goal

pub new-requires-in-Ok-clause-has_text : goal.new-requires-in-Ok-clause-has_text
new-requires-in-Ok-clause-has_text c =
    tree_has_text _
    (has_tree {s = c.in_ok-new.field-0} {t = c.whole_module.new.self.source} {m = module_of c.in-Ok.tree} c.in_ok-new.ensures.begins c.in-Ok.ensures
    c.in_ok-finish-in-Ok.ensures.tokens)

pub new-requires-in-Ok-clause-keeps : goal.new-requires-in-Ok-clause-keeps
new-requires-in-Ok-clause-keeps c =
    (has_tree {s = c.in_ok-new.field-0} {t = c.whole_module.new.self.source} {m = module_of c.in-Ok.tree} c.in_ok-new.ensures.begins c.in-Ok.ensures
    c.in_ok-finish-in-Ok.ensures.tokens).keeps

pub returns-in_ok-finish-in-Ok-clause-tree : goal.returns-in_ok-finish-in-Ok-clause-tree
returns-in_ok-finish-in-Ok-clause-tree c =
    let P : ModuleTree → Type 0 = λ m. IsTextOf c.args.text.now (module_of m) in
    subst P (sym c.new-in-Ok.ensures)
    (has_tree {s = c.in_ok-new.field-0} {t = c.whole_module.new.self.source} {m = module_of c.in-Ok.tree} c.in_ok-new.ensures.begins c.in-Ok.ensures
    c.in_ok-finish-in-Ok.ensures.tokens)

pub returns-in_ok-finish-in-Ok-clause-alone : goal.returns-in_ok-finish-in-Ok-clause-alone
returns-in_ok-finish-in-Ok-clause-alone c =
    let P : ModuleTree → Type 0 = λ m. (other : Tree.Module) → IsTextOf c.args.text.now other → other ≡ module_of m in
    subst P (sym c.new-in-Ok.ensures)
    (one_tree {s = c.in_ok-new.field-0} {t = c.whole_module.new.self.source} {m = module_of c.in-Ok.tree} c.in_ok-new.ensures.begins c.in-Ok.ensures)

pub returns-in_ok-finish-in_default-clause-fault : goal.returns-in_ok-finish-in_default-clause-fault
returns-in_ok-finish-in_default-clause-fault c =
    parse_fault {s = c.in_ok-new.field-0} {t = c.whole_module.new.self.source} {e = c.in-Err.fault} c.in_ok-new.ensures.begins c.in-Err.ensures
    c.in_default.not-NoMemory c.in_ok-finish-in_default.ensures.tokens

pub returns-in_ok-finish-in_default-clause-none : goal.returns-in_ok-finish-in_default-clause-none
returns-in_ok-finish-in_default-clause-none c = λ says.
    parsed_none {s = c.in_ok-new.field-0} {t = c.whole_module.new.self.source} {e = c.in-Err.fault} c.in_ok-new.ensures.begins c.in-Err.ensures
    c.in_default.not-NoMemory
