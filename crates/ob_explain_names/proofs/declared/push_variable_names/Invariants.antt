-- The names so far, and those that are left.
use Rattle.std.proofs.Common.{drop}
use Rattle.ob_explain_names.proofs.Added.{Added, names_left}
use Rattle.ob_explain_names.proofs.declared.push_variable_names.Given as goal

abbrev pub invariant-loop-name : goal.invariant-loop-name
invariant-loop-name l = Added l.initial.known.items l.known.items (names_left (drop l.name-index l.names)) (names_left l.names)
