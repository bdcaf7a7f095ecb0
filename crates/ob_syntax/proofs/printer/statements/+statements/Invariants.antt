use Rattle.std.proofs.Common.{string_bytes, drop}
use Rattle.ob_grammar.specs.View.{stmts_in, branches_in}
use Rattle.ob_syntax.specs.Printing.{stmts_words, branch_words}
use Rattle.ob_syntax.proofs.PrintedLoops.{Written, stmts_left, branches_left}
use Rattle.ob_syntax.proofs.printer.statements.+statements.Given as goal

abbrev pub invariant-push_branches-loop-branch : goal.invariant-push_branches-loop-branch
invariant-push_branches-loop-branch l =
    Written (string_bytes l.fn.text) (string_bytes l.text) (branches_left l.is_first (drop l.branch-index l.branches)) (branch_words (branches_in l.branches))

abbrev pub invariant-push_statements-loop-statement : goal.invariant-push_statements-loop-statement
invariant-push_statements-loop-statement l =
    Written (string_bytes l.fn.text) (string_bytes l.text) (stmts_left l.is_first (drop l.statement-index l.statements)) (stmts_words (stmts_in l.statements))
