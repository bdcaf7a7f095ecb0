use Rattle.std.proofs.Common.{string_bytes, drop, map}
use Rattle.ob_scan.specs.declared.token.Kind.{Kind}
use Rattle.ob_grammar.specs.View.{section_of}
use Rattle.ob_syntax.specs.Printing.{between, section_words}
use Rattle.ob_syntax.proofs.PrintedLoops.{Written, parts_left}
use Rattle.ob_syntax.proofs.printer.push_parameters.Given as goal

abbrev pub invariant-loop-section : goal.invariant-loop-section
invariant-loop-section l =
    Written (string_bytes l.initial.text) (string_bytes l.text)
    (parts_left Kind.Semicolon section_words l.is_first (map section_of (drop l.section-index l.section-items)))
    (between Kind.Semicolon section_words (map section_of l.section-items))
