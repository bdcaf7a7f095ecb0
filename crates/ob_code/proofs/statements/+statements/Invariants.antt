use Rattle.std.proofs.Common.{◌≡◌, ◌+◌, ◌*◌, length, drop}
use Rattle.ob_code_scheme.specs.Scheme.{statements_at}
use Rattle.ob_checked.specs.View.{statement_of, statements_in, branches_in, otherwise_of}
use Rattle.ob_code.specs.Entering.{entry_in}
use Rattle.ob_code.specs.Growing.{grown}
use Rattle.ob_code.specs.Scoped.{globals_in, own_in}
use Rattle.ob_code.proofs.Falls.{weight, weight_of_all, weight_of_branches}
use Rattle.ob_code.proofs.statements.+statements.Given as goal

abbrev pub decreases-put_statements : goal.decreases-put_statements
decreases-put_statements l = 2 * weight_of_all (statements_in l.statements.now)

abbrev pub decreases-put_statement : goal.decreases-put_statement
decreases-put_statement l = 2 * weight (statement_of l.statement.now)

abbrev pub decreases-put_while : goal.decreases-put_while
decreases-put_while l = 2 * weight_of_all (statements_in l.body.now) + 1

abbrev pub decreases-put_repeat : goal.decreases-put_repeat
decreases-put_repeat l = 2 * weight_of_all (statements_in l.body.now) + 1

abbrev pub decreases-put_branch : goal.decreases-put_branch
decreases-put_branch l = 2 * weight_of_all (statements_in l.branch.now.body.items) + 1

abbrev pub decreases-put_branches : goal.decreases-put_branches
decreases-put_branches l = 2 * weight_of_branches (branches_in l.branches.now (otherwise_of l.otherwise.now)) + 1

-- the code so far with that of the statements that are left
abbrev pub invariant-put_statements-loop-statement : goal.invariant-put_statements-loop-statement
invariant-put_statements-loop-statement l =
    grown l.code (statements_at (globals_in l.scopes) (own_in l.scopes) (entry_in l.entries) (length l.code.instructions) (statements_in (drop l.statement-index l.statements)))
    ≡ grown l.initial.code (statements_at (globals_in l.scopes) (own_in l.scopes) (entry_in l.entries) (length l.initial.code.instructions) (statements_in l.statements))
