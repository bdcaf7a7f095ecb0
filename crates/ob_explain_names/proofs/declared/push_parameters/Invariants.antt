-- The names so far, and those that are left.
use Rattle.std.proofs.Common.{drop}
use Rattle.ob_explain_names.proofs.Added.{Added, sections_left}
use Rattle.ob_explain_names.proofs.declared.push_parameters.Given as goal

abbrev pub invariant-loop-section : goal.invariant-loop-section
invariant-loop-section l = Added l.initial.known.items l.known.items (sections_left (drop l.section-index l.section-items)) (sections_left l.section-items)
