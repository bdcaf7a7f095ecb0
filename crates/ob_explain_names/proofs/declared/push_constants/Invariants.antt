-- The names so far, and those that are left.
use Rattle.std.proofs.Common.{drop}
use Rattle.ob_explain_names.proofs.Added.{Added, constants_left}
use Rattle.ob_explain_names.proofs.declared.push_constants.Given as goal

abbrev pub invariant-loop-constant : goal.invariant-loop-constant
invariant-loop-constant l = Added l.initial.known.items l.known.items (constants_left (drop l.constant-index l.constant-items)) (constants_left l.constant-items)
