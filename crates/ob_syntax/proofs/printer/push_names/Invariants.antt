use Rattle.std.proofs.Common.{[], ◌∷◌, string_bytes, drop, map}
use Rattle.ob_scan.specs.declared.token.Kind.{Kind}
use Rattle.ob_grammar.specs.View.{name_of}
use Rattle.ob_syntax.specs.Printing.{ident, name_words}
use Rattle.ob_syntax.proofs.PrintedLoops.{Written, parts_left}
use Rattle.ob_syntax.proofs.printer.push_names.Given as goal

abbrev pub invariant-loop-name : goal.invariant-loop-name
invariant-loop-name l =
    Written (string_bytes l.fn.text) (string_bytes l.text)
    (parts_left Kind.Comma (λ name. ident name ∷ []) l.is_first (map name_of (drop l.name-index l.names))) (name_words (map name_of l.names))
