use Rattle.std.proofs.Common.{string_bytes, drop}
use Rattle.ob_grammar.specs.View.{fields_in}
use Rattle.ob_syntax.specs.Printing.{field_words}
use Rattle.ob_syntax.proofs.PrintedLoops.{Written, fields_left}
use Rattle.ob_syntax.proofs.printer.types.+types.Given as goal

abbrev pub invariant-push_fields-loop-list : goal.invariant-push_fields-loop-list
invariant-push_fields-loop-list l =
    Written (string_bytes l.fn.text) (string_bytes l.text) (fields_left l.is_first (drop l.list-index l.lists)) (field_words (fields_in l.lists))
