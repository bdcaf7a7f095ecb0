use Rattle.std.proofs.Common.{string_bytes, drop, map}
use Rattle.ob_scan.specs.declared.token.Kind.{Kind}
use Rattle.ob_grammar.specs.View.{expr_of}
use Rattle.ob_syntax.specs.Printing.{between, expr_words}
use Rattle.ob_syntax.proofs.PrintedLoops.{Written, parts_left}
use Rattle.ob_syntax.proofs.printer.statements.push_actuals.Given as goal

abbrev pub invariant-loop-actual : goal.invariant-loop-actual
invariant-loop-actual l =
    Written (string_bytes l.initial.text) (string_bytes l.text)
    (parts_left Kind.Comma expr_words l.is_first (map expr_of (drop l.actual-index l.actual-items)))
    (between Kind.Comma expr_words (map expr_of l.actual-items))
