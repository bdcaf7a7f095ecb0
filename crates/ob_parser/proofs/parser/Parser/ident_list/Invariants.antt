use Rattle.std.proofs.Common.{◌-◌, ◌++◌, length, map}
use Rattle.ob_parser.specs.Forms as forms
use Rattle.ob_scan.specs.declared.token.Kind.{Kind}
use Rattle.ob_grammar.specs.View.{name_of}
use Rattle.ob_parser.proofs.Phrases.{tail}
use Rattle.ob_parser.proofs.States.{Path}
use Rattle.ob_parser.proofs.parser.Parser.ident_list.Given as goal

abbrev pub invariant-loop-self : goal.invariant-loop-self
invariant-loop-self g l = Path forms.ident_list (g.S.TokenSource.state l.fn.self.source) (tail Kind.Comma forms.comma forms.none forms.name) (g.S.TokenSource.state l.self.source) (λ xs. map name_of l.all.items ++ xs)

abbrev pub decreases-loop-self : goal.decreases-loop-self
decreases-loop-self g l = (g.S.TokenSource.state l.self.source).left
