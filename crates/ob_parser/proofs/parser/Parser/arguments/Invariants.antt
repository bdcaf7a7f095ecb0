use Rattle.std.proofs.Common.{◌-◌, ◌++◌, length, map, flat_map}
use Rattle.ob_scan.specs.declared.token.Kind.{Kind}
use Rattle.ob_grammar.specs.EndNamesAndNesting.{in_expr}
use Rattle.ob_parser.specs.Forms as forms
use Rattle.ob_grammar.specs.View.{expr_of}
use Rattle.ob_parser.proofs.Phrases.{tail}
use Rattle.ob_parser.proofs.States.{Path}
use Rattle.ob_parser.proofs.parser.Parser.arguments.Given as goal

abbrev pub invariant-loop-self : goal.invariant-loop-self
invariant-loop-self g l =
    Path (forms.arguments l.depth) (g.S.TokenSource.state l.fn.self.source)
    (tail Kind.Comma forms.arguments_go_on (flat_map (in_expr l.depth)) (forms.expression l.depth)) (g.S.TokenSource.state l.self.source)
    (λ es. map expr_of l.all.items ++ es)

abbrev pub decreases-loop-self : goal.decreases-loop-self
decreases-loop-self g l = (g.S.TokenSource.state l.self.source).left
