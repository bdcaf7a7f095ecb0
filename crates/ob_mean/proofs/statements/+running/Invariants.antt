use Rattle.std.proofs.Common.{◌≡◌, ℕ, ◌+◌, ◌*◌, ◌≤◌, drop}
use Rattle.ob_typing.specs.Program as Programs
use Rattle.ob_checked.specs.View.{expression_of, statement_of, statements_in, branches_in, otherwise_of, program_of}
use Rattle.ob_meaning.specs.ByPositionStatements as Statements
use Rattle.ob_store.specs.View.{store_in}
use Rattle.ob_store.specs.Begun.{begun_in}
use Rattle.ob_mean.specs.Running.{calls_of}
use Rattle.ob_mean.proofs.Sizes.{size, size_of_all, size_of_branches, turn_of}
use Rattle.ob_mean.proofs.statements.+running.Given as goal

abbrev pub decreases-run : goal.decreases-run
decreases-run l = l.context.more * turn_of (program_of l.context.program.now) + 2 * size_of_all (statements_in l.statements.now)

abbrev pub decreases-execute : goal.decreases-execute
decreases-execute l = l.context.more * turn_of (program_of l.context.program.now) + 2 * size (statement_of l.statement.now)

abbrev pub decreases-choose : goal.decreases-choose
decreases-choose l =
    l.context.more * turn_of (program_of l.context.program.now) + (2 * size_of_branches (branches_in l.branches.now (otherwise_of l.otherwise.now)) + 1)

abbrev pub decreases-run_while : goal.decreases-run_while
decreases-run_while l = l.context.more * turn_of (program_of l.context.program.now) + (2 * size_of_all (statements_in l.body.now) + 1)

abbrev pub decreases-run_repeat : goal.decreases-run_repeat
decreases-run_repeat l = l.context.more * turn_of (program_of l.context.program.now) + (2 * size_of_all (statements_in l.body.now) + 1)

abbrev pub decreases-call : goal.decreases-call
decreases-call l = l.context.more * turn_of (program_of l.context.program.now) + 1

-- what the statements that are left come to is what all come to, and turns never grow
abbrev pub invariant-run-loop-statement : goal.invariant-run-loop-statement
invariant-run-loop-statement l =
    (Statements.meaning_of_all (calls_of l.context) (statements_in (drop l.statement-index l.statements)) l.left (store_in l.store)
    ≡ Statements.meaning_of_all (calls_of l.context) (statements_in l.statements) l.turns (store_in l.initial.store))
    × ((l.left ≤ l.turns) × (begun_in l.store ≡ begun_in l.initial.store))

-- what the branches that are left come to is what all come to
abbrev pub invariant-choose-loop-branch : goal.invariant-choose-loop-branch
invariant-choose-loop-branch l =
    (Statements.meaning_of_branches (calls_of l.context) (branches_in (drop l.branch-index l.branches) (otherwise_of l.otherwise)) l.turns (store_in l.store)
    ≡ Statements.meaning_of_branches (calls_of l.context) (branches_in l.branches (otherwise_of l.otherwise)) l.turns (store_in l.initial.store))
    × (begun_in l.store ≡ begun_in l.initial.store)

-- the loop goes on with at least as many turns to take as there are left
abbrev pub invariant-run_while-again : goal.invariant-run_while-again
invariant-run_while-again l =
    ((n : ℕ) × ((l.left ≤ n)
    × (Statements.loop n (expression_of l.condition) (Statements.meaning_of_all (calls_of l.context) (statements_in l.body)) l.left (store_in l.store)
    ≡ Statements.meaning (calls_of l.context) (Programs.While (expression_of l.condition) (statements_in l.body)) l.turns (store_in l.initial.store))))
    × ((l.left ≤ l.turns) × (begun_in l.store ≡ begun_in l.initial.store))

abbrev pub decreases-run_while-again : goal.decreases-run_while-again
decreases-run_while-again l = l.left

abbrev pub invariant-run_repeat-rounds : goal.invariant-run_repeat-rounds
invariant-run_repeat-rounds l =
    ((n : ℕ) × ((l.left ≤ n)
    × (Statements.rounds n (Statements.meaning_of_all (calls_of l.context) (statements_in l.body)) (expression_of l.condition) l.left (store_in l.store)
    ≡ Statements.meaning (calls_of l.context) (Programs.Repeat (statements_in l.body) (expression_of l.condition)) l.turns (store_in l.initial.store))))
    × ((l.left ≤ l.turns) × (begun_in l.store ≡ begun_in l.initial.store))

abbrev pub decreases-run_repeat-rounds : goal.decreases-run_repeat-rounds
decreases-run_repeat-rounds l = l.left
