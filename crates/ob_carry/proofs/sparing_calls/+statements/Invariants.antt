use Rattle.std.proofs.Common.{drop}
use Rattle.ob_typing.specs.Program.{no_branch}
use Rattle.ob_checked.specs.View.{statements_in, branches_in}
use Rattle.ob_carry.specs.ReadOnly.{AllSpareModule, BranchesSpareModule}
use Rattle.ob_carry.proofs.TellingValues.{GoesOn}
use Rattle.ob_carry.proofs.sparing_calls.+statements.Given as goal

-- where the statements that are left spare the module's variables, all do
abbrev pub invariant-statements_spare-loop-statement : goal.invariant-statements_spare-loop-statement
invariant-statements_spare-loop-statement l =
    GoesOn (λ quiet. AllSpareModule quiet (statements_in (drop l.statement-index l.statements))) (λ quiet. AllSpareModule quiet (statements_in l.statements)) l.initial.calls.items l.calls.items

-- where the branches that are left do, all do
abbrev pub invariant-branches_spare-loop-branch : goal.invariant-branches_spare-loop-branch
invariant-branches_spare-loop-branch l =
    GoesOn (λ quiet. BranchesSpareModule quiet (branches_in (drop l.branch-index l.branches) no_branch))
    (λ quiet. BranchesSpareModule quiet (branches_in l.branches no_branch)) l.initial.calls.items l.calls.items
