use Rattle.std.proofs.Common.{string_bytes, drop}
use Rattle.ob_grammar.specs.View.{procedures_in}
use Rattle.ob_syntax.specs.Printing.{procedure_words}
use Rattle.ob_syntax.proofs.PrintedLoops.{Written}
use Rattle.ob_syntax.proofs.printer.+declarations.Given as goal

abbrev pub invariant-push_procedures-loop-procedure : goal.invariant-push_procedures-loop-procedure
invariant-push_procedures-loop-procedure l =
    Written (string_bytes l.fn.text) (string_bytes l.text) (procedure_words (procedures_in (drop l.procedure-index l.procedures)))
    (procedure_words (procedures_in l.procedures))
