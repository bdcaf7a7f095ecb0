use Rattle.std.proofs.Common.{◌≡◌, ℕ, ◌+◌, ◌*◌, ◌≤◌, drop}
use Rattle.ob_typing.specs.Program as Programs
use Rattle.ob_checked.specs.View.{expression_of, statement_of, statements_in, branches_in, otherwise_of, program_of}
use Rattle.ob_meaning.specs.ByPositionEvaluation.{by_position}
use Rattle.ob_store.specs.View.{store_in}
use Rattle.ob_mean.proofs.Sizes.{size, size_of_all, size_of_branches}
use Rattle.ob_trap_places.specs.SitesOverStore as Sited
use Rattle.ob_trap_places.specs.Running.{calls_of}
use Rattle.ob_trap_places.proofs.Turns.{turn_of}
use Rattle.ob_trap_places.proofs.sited_statements.+running.Given as goal

abbrev pub decreases-run : goal.decreases-run
decreases-run l = l.context.more * turn_of (program_of l.context.program.now) + 4 * size_of_all (statements_in l.statements.now)

abbrev pub decreases-run_in_part : goal.decreases-run_in_part
decreases-run_in_part l = l.context.more * turn_of (program_of l.context.program.now) + (4 * size_of_all (statements_in l.statements.now) + 1)

abbrev pub decreases-run_branch : goal.decreases-run_branch
decreases-run_branch l = l.context.more * turn_of (program_of l.context.program.now) + (4 * size_of_all (statements_in l.statements.now) + 2)

abbrev pub decreases-execute : goal.decreases-execute
decreases-execute l = l.context.more * turn_of (program_of l.context.program.now) + 4 * size (statement_of l.statement.now)

abbrev pub decreases-execute_in_part : goal.decreases-execute_in_part
decreases-execute_in_part l = l.context.more * turn_of (program_of l.context.program.now) + (4 * size (statement_of l.statement.now) + 1)

abbrev pub decreases-choose : goal.decreases-choose
decreases-choose l =
    l.context.more * turn_of (program_of l.context.program.now) + (4 * size_of_branches (branches_in l.branches.now (otherwise_of l.otherwise.now)) + 1)

abbrev pub decreases-run_while : goal.decreases-run_while
decreases-run_while l = l.context.more * turn_of (program_of l.context.program.now) + (4 * size_of_all (statements_in l.body.now) + 2)

abbrev pub decreases-run_repeat : goal.decreases-run_repeat
decreases-run_repeat l = l.context.more * turn_of (program_of l.context.program.now) + (4 * size_of_all (statements_in l.body.now) + 2)

abbrev pub decreases-call : goal.decreases-call
decreases-call l = l.context.more * turn_of (program_of l.context.program.now) + 1

abbrev pub decreases-activate : goal.decreases-activate
decreases-activate l = l.context.more * turn_of (program_of l.context.program.now) + (4 * size_of_all (statements_in l.procedure.now.body.items) + 1)

-- what the statements that are left come to is what all come to, and turns never grow
abbrev pub invariant-run-loop-number : goal.invariant-run-loop-number
invariant-run-loop-number l =
    (Sited.meaning_of_all by_position (calls_of l.context) l.number (statements_in (drop l.number l.statements)) l.left (store_in l.store)
    ≡ Sited.meaning_of_all by_position (calls_of l.context) 0 (statements_in l.statements) l.turns (store_in l.initial.store))
    × (l.left ≤ l.turns)

-- what the branches that are left come to is what all come to
abbrev pub invariant-choose-loop-number : goal.invariant-choose-loop-number
invariant-choose-loop-number l =
    Sited.meaning_of_branches by_position (calls_of l.context) l.number (branches_in (drop l.number l.branches) (otherwise_of l.otherwise)) l.turns (store_in l.store)
    ≡ Sited.meaning_of_branches by_position (calls_of l.context) 0 (branches_in l.branches (otherwise_of l.otherwise)) l.turns (store_in l.initial.store)

-- the loop goes on with at least as many turns to take as there are left
abbrev pub invariant-run_while-again : goal.invariant-run_while-again
invariant-run_while-again l =
    ((n : ℕ) × ((l.left ≤ n)
    × (Sited.loop by_position n (expression_of l.condition) (Sited.meaning_of_all by_position (calls_of l.context) 0 (statements_in l.body)) l.left (store_in l.store)
    ≡ Sited.meaning by_position (calls_of l.context) (Programs.While (expression_of l.condition) (statements_in l.body)) l.turns (store_in l.initial.store))))
    × (l.left ≤ l.turns)

abbrev pub decreases-run_while-again : goal.decreases-run_while-again
decreases-run_while-again l = l.left

abbrev pub invariant-run_repeat-rounds : goal.invariant-run_repeat-rounds
invariant-run_repeat-rounds l =
    ((n : ℕ) × ((l.left ≤ n)
    × (Sited.rounds by_position n (Sited.meaning_of_all by_position (calls_of l.context) 0 (statements_in l.body)) (expression_of l.condition) l.left (store_in l.store)
    ≡ Sited.meaning by_position (calls_of l.context) (Programs.Repeat (statements_in l.body) (expression_of l.condition)) l.turns (store_in l.initial.store))))
    × (l.left ≤ l.turns)

abbrev pub decreases-run_repeat-rounds : goal.decreases-run_repeat-rounds
decreases-run_repeat-rounds l = l.left
