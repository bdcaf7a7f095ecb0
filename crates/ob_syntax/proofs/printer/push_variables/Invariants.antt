use Rattle.std.proofs.Common.{string_bytes, drop, map}
use Rattle.std.specs.List.{flat_map}
use Rattle.ob_grammar.specs.View.{var_decl_of}
use Rattle.ob_syntax.specs.Printing.{var_decl_words}
use Rattle.ob_syntax.proofs.PrintedLoops.{Written}
use Rattle.ob_syntax.proofs.printer.push_variables.Given as goal

abbrev pub invariant-loop-declaration : goal.invariant-loop-declaration
invariant-loop-declaration l =
    Written (string_bytes l.initial.text) (string_bytes l.text) (flat_map var_decl_words (map var_decl_of (drop l.declaration-index l.declaration-items)))
    (flat_map var_decl_words (map var_decl_of l.declaration-items))
