use Rattle.std.proofs.Common.{string_bytes, drop}
use Rattle.ob_grammar.specs.View.{operands_in, selectors_in}
use Rattle.ob_syntax.specs.Printing.{operand_words, selector_words}
use Rattle.ob_syntax.proofs.PrintedLoops.{Written}
use Rattle.ob_syntax.proofs.printer.expressions.+expr.Given as goal

abbrev pub invariant-push_operands-loop-operand : goal.invariant-push_operands-loop-operand
invariant-push_operands-loop-operand l =
    Written (string_bytes l.fn.text) (string_bytes l.text) (operand_words (operands_in (drop l.operand-index l.operands))) (operand_words (operands_in l.operands))

abbrev pub invariant-push_selectors-loop-selector : goal.invariant-push_selectors-loop-selector
invariant-push_selectors-loop-selector l =
    Written (string_bytes l.fn.text) (string_bytes l.text) (selector_words (selectors_in (drop l.selector-index l.selectors))) (selector_words (selectors_in l.selectors))
