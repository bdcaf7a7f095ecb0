use Rattle.std.proofs.Common.{string_bytes, drop, map}
use Rattle.std.specs.List.{flat_map}
use Rattle.ob_grammar.specs.View.{const_decl_of}
use Rattle.ob_syntax.specs.Printing.{const_words}
use Rattle.ob_syntax.proofs.PrintedLoops.{Written}
use Rattle.ob_syntax.proofs.printer.push_constants.Given as goal

abbrev pub invariant-loop-constant : goal.invariant-loop-constant
invariant-loop-constant l =
    Written (string_bytes l.initial.text) (string_bytes l.text) (flat_map const_words (map const_decl_of (drop l.constant-index l.constant-items)))
    (flat_map const_words (map const_decl_of l.constant-items))
