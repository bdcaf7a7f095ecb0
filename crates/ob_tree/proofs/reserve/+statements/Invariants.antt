use Rattle.std.proofs.Common.{◌≡◌, min, max, drop}
use Rattle.ob_typing.specs.Program.{no_branch}
use Rattle.ob_tree_law.specs.Reserve as Counts
use Rattle.ob_checked.specs.View.{statements_in, branches_in}
use Rattle.ob_tree.proofs.reserve.+statements.Given as goal

-- the most so far, and those of the statements that are left
abbrev pub invariant-all_most-loop-statement : goal.invariant-all_most-loop-statement
invariant-all_most-loop-statement l =
    max l.most (min (Counts.all_most (statements_in (drop l.statement-index l.statements))) 18446744073709551615)
    ≡ min (Counts.all_most (statements_in l.statements)) 18446744073709551615

-- the most so far, and those of the branches that are left
abbrev pub invariant-choosing_most-loop-branch : goal.invariant-choosing_most-loop-branch
invariant-choosing_most-loop-branch l =
    max l.most (min (Counts.choosing_most (branches_in (drop l.branch-index l.branches) no_branch)) 18446744073709551615)
    ≡ min (Counts.choosing_most (branches_in l.branches no_branch)) 18446744073709551615
