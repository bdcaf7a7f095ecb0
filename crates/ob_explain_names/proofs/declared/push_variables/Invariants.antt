-- The names so far, and those that are left.
use Rattle.std.proofs.Common.{drop}
use Rattle.ob_explain_names.proofs.Added.{Added, variables_left}
use Rattle.ob_explain_names.proofs.declared.push_variables.Given as goal

abbrev pub invariant-loop-declaration : goal.invariant-loop-declaration
invariant-loop-declaration l = Added l.initial.known.items l.known.items (variables_left (drop l.declaration-index l.declaration-items)) (variables_left l.declaration-items)
