use Rattle.std.proofs.Common.{◌≡◌, min, max, drop}
use Rattle.ob_typing.specs.Program.{no_branch}
use Rattle.ob_code_scheme.specs.Temporaries as Counts
use Rattle.ob_checked.specs.View.{statements_in, branches_in}
use Rattle.ob_layout.proofs.temporaries.+statements.Given as goal

-- the most so far, and those of the statements that are left
abbrev pub invariant-statements_temporaries-loop-statement : goal.invariant-statements_temporaries-loop-statement
invariant-statements_temporaries-loop-statement l =
    max l.most (min (Counts.statements_temporaries (statements_in (drop l.statement-index l.statements))) 18446744073709551615)
    ≡ min (Counts.statements_temporaries (statements_in l.statements)) 18446744073709551615

-- the most so far, and those of the branches that are left
abbrev pub invariant-branches_temporaries-loop-branch : goal.invariant-branches_temporaries-loop-branch
invariant-branches_temporaries-loop-branch l =
    max l.most (min (Counts.branches_temporaries (branches_in (drop l.branch-index l.branches) no_branch)) 18446744073709551615)
    ≡ min (Counts.branches_temporaries (branches_in l.branches no_branch)) 18446744073709551615
