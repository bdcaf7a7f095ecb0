use Rattle.std.proofs.Common.{◌-◌, ◌++◌, length, map}
use Rattle.ob_parser.specs.Forms as forms
use Rattle.ob_grammar.specs.View.{type_decl_of}
use Rattle.ob_parser.proofs.States.{Path}
use Rattle.ob_parser.proofs.parser.Parser.type_declarations.Given as goal

abbrev pub invariant-loop-self : goal.invariant-loop-self
invariant-loop-self g l = Path (forms.type_declarations l.depth) (g.S.TokenSource.state l.fn.self.source) (forms.type_declarations l.depth) (g.S.TokenSource.state l.self.source) (λ xs. map type_decl_of l.all.items ++ xs)

abbrev pub decreases-loop-self : goal.decreases-loop-self
decreases-loop-self g l = (g.S.TokenSource.state l.self.source).left
