use Rattle.std.proofs.lemmas.Result.{err_from_is_err_and}
use Rattle.ob_grammar.specs.View.{module_of}
use Rattle.ob_check.proofs.NoModule.{no_module_check, no_module_source, one_program, one_tree, source_fault}
use Rattle.ob_check.proofs.module_text.checked_text.Goals as goal

pub returns-clause-alone : goal.returns-clause-alone
returns-clause-alone c = one_program _ _ _ c.in_ok-tree.ensures.alone c.in_ok-check.ensures.alone

pub returns-clause-one_tree : goal.returns-clause-one_tree
returns-clause-one_tree c = one_tree _ _ _ c.in_ok-check.ensures.tree c.in_ok-tree.ensures.alone

pub returns-in_err-tree-clause-none : goal.returns-in_err-tree-clause-none
returns-in_err-tree-clause-none c =
    let p = err_from_is_err_and c.from_residual.result c.from_residual.ensures.1 in
    rw (p.1, p.2) (no_module_source c.args.text.now c.in_err-tree.field-0.0 c.in_err-tree.ensures.fault c.in_err-tree.ensures.none)

pub returns-in_err-tree-clause-fault : goal.returns-in_err-tree-clause-fault
returns-in_err-tree-clause-fault c =
    let p = err_from_is_err_and c.from_residual.result c.from_residual.ensures.1 in
    rw (p.1, p.2) (source_fault c.args.text.now c.in_err-tree.field-0.0 c.in_err-tree.ensures.fault)

pub returns-in_err-check-clause-none : goal.returns-in_err-check-clause-none
returns-in_err-check-clause-none c =
    let p = err_from_is_err_and c.from_residual-in_err-check.result c.from_residual-in_err-check.ensures.1 in
    rw (p.1, p.2) (no_module_check c.args.text.now (module_of c.in_ok-tree.tree) c.in_err-check.field-0.0 c.in_ok-tree.ensures.alone c.in_err-check.ensures.fault)
