use Rattle.std.proofs.Common.{◌≡◌, ◌+◌, ◌*◌, min, max, drop}
use Rattle.ob_code_scheme.specs.Scheme as Scheme
use Rattle.ob_checked.specs.View.{statement_of, statements_in, branches_in, otherwise_of}
use Rattle.ob_code.specs.Scoped.{own_in}
use Rattle.ob_code.proofs.Falls.{weight, weight_of_all, weight_of_branches}
use Rattle.ob_code.proofs.sizes.+statement_sizes.Given as goal

abbrev pub decreases-statements_size : goal.decreases-statements_size
decreases-statements_size l = 2 * weight_of_all (statements_in l.statements.now)

abbrev pub decreases-statement_size : goal.decreases-statement_size
decreases-statement_size l = 2 * weight (statement_of l.statement.now)

abbrev pub decreases-branches_size : goal.decreases-branches_size
decreases-branches_size l = 2 * weight_of_branches (branches_in l.branches.now (otherwise_of l.otherwise.now)) + 1

-- the sum so far, and those of the statements that are left
abbrev pub invariant-statements_size-loop-statement : goal.invariant-statements_size-loop-statement
invariant-statements_size-loop-statement l =
    max l.sum (min (l.sum + Scheme.statements_size (own_in l.scopes) (statements_in (drop l.statement-index l.statements))) 18446744073709551615)
    ≡ min (Scheme.statements_size (own_in l.scopes) (statements_in l.statements)) 18446744073709551615
