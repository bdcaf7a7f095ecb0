-- The names so far, and those of the procedures that are left.
use Rattle.std.proofs.Common.{drop}
use Rattle.ob_grammar.specs.View.{procedures_in}
use Rattle.ob_explain_names.specs.Known.{known_procedures}
use Rattle.ob_explain_names.proofs.Added.{Added}
use Rattle.ob_explain_names.proofs.declared.+declarations.Given as goal

abbrev pub invariant-push_procedures-loop-procedure : goal.invariant-push_procedures-loop-procedure
invariant-push_procedures-loop-procedure l =
    Added l.fn.known.items l.known.items (known_procedures l.at (procedures_in (drop l.procedure-index l.procedures)))
    (known_procedures l.at (procedures_in l.procedures))
