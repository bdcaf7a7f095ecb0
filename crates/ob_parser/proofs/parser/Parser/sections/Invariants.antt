use Rattle.std.proofs.Common.{◌-◌, ◌++◌, length, map, flat_map}
use Rattle.ob_parser.specs.Forms as forms
use Rattle.ob_scan.specs.declared.token.Kind.{Kind}
use Rattle.ob_grammar.specs.EndNamesAndNesting.{in_type}
use Rattle.ob_grammar.specs.Tree.{Section}
use Rattle.ob_grammar.specs.View.{section_of}
use Rattle.ob_parser.proofs.Phrases.{tail}
use Rattle.ob_parser.proofs.States.{Path}
use Rattle.ob_parser.proofs.parser.Parser.sections.Given as goal

abbrev pub invariant-loop-self : goal.invariant-loop-self
invariant-loop-self g l =
    Path (forms.sections l.depth) (g.S.TokenSource.state l.fn.self.source)
    (tail Kind.Semicolon forms.semicolon (flat_map (λ (s : Section). in_type l.depth s.of_type)) (forms.section l.depth)) (g.S.TokenSource.state l.self.source)
    (λ xs. map section_of l.all.items ++ xs)

abbrev pub decreases-loop-self : goal.decreases-loop-self
decreases-loop-self g l = (g.S.TokenSource.state l.self.source).left
