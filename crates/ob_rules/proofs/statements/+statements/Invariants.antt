use Rattle.std.proofs.Common.{◌≡◌, drop}
use Rattle.ob_grammar.specs.View.{stmt_of, stmts_in}
use Rattle.ob_grammar.specs.View as Trees
use Rattle.ob_typing.specs.Program as Programs
use Rattle.ob_typing.specs.Verdict.{Verdict, ◌>>=◌}
use Rattle.ob_typing.specs.StatementVerdicts.{statements, branches}
use Rattle.ob_scopes.specs.Names.{env_of}
use Rattle.ob_rules.proofs.Bodies.{behind_done, branched}
use Rattle.ob_rules.proofs.Sizes.{size, size_of_all, size_of_branches, size_of_else}
use Rattle.ob_rules.proofs.statements.+statements.Given as goal

-- what is left completes what is done
abbrev pub invariant-statements-loop-next : goal.invariant-statements-loop-next
invariant-statements-loop-next l =
    statements (env_of l.scopes) (stmts_in l.written)
    ≡ ◌>>=◌ (statements (env_of l.scopes) (stmts_in (drop l.next-index l.written))) (behind_done l.checked.items)

abbrev pub invariant-if_branches-loop-branch : goal.invariant-if_branches-loop-branch
invariant-if_branches-loop-branch l =
    (last : Verdict Programs.Branches) → branches (env_of l.scopes) (Trees.branches_in l.written) last
    ≡ ◌>>=◌ (branches (env_of l.scopes) (Trees.branches_in (drop l.branch-index l.written)) last) (branched (env_of l.scopes) l.checked.items)

-- what stands within is smaller

abbrev pub decreases-statements : goal.decreases-statements
decreases-statements l = size_of_all (stmts_in l.written.now)

abbrev pub decreases-statement : goal.decreases-statement
decreases-statement l = size (stmt_of l.written.now)

abbrev pub decreases-if_branches : goal.decreases-if_branches
decreases-if_branches l = size_of_branches (Trees.branches_in l.written.now)

abbrev pub decreases-else_branch : goal.decreases-else_branch
decreases-else_branch l = size_of_else (Trees.otherwise_of l.written.now)
