use Rattle.std.proofs.Common.{◌+◌, ◌-◌, ◌*◌, length}
use Rattle.ob_parser.specs.Forms as forms
use Rattle.ob_parser.proofs.ExpressionLoops.{operands_before, selectors_before}
use Rattle.ob_parser.proofs.States.{Path}
use Rattle.ob_parser.proofs.parser.Parser.+expr.Given as goal

-- At one token a method calls those of a lower rank.

abbrev pub decreases-index : goal.decreases-index
decreases-index g l = 7 * (g.S.TokenSource.state l.self.now.source).left

abbrev pub decreases-selector : goal.decreases-selector
decreases-selector g l = 7 * (g.S.TokenSource.state l.self.now.source).left + 1

abbrev pub decreases-selectors : goal.decreases-selectors
decreases-selectors g l = 7 * (g.S.TokenSource.state l.self.now.source).left + 2

abbrev pub decreases-parenthesized : goal.decreases-parenthesized
decreases-parenthesized g l = 7 * (g.S.TokenSource.state l.self.now.source).left

abbrev pub decreases-negation : goal.decreases-negation
decreases-negation g l = 7 * (g.S.TokenSource.state l.self.now.source).left

abbrev pub decreases-factor : goal.decreases-factor
decreases-factor g l = 7 * (g.S.TokenSource.state l.self.now.source).left + 3

abbrev pub decreases-factors : goal.decreases-factors
decreases-factors g l = 7 * (g.S.TokenSource.state l.self.now.source).left

abbrev pub decreases-term : goal.decreases-term
decreases-term g l = 7 * (g.S.TokenSource.state l.self.now.source).left + 4

abbrev pub decreases-terms : goal.decreases-terms
decreases-terms g l = 7 * (g.S.TokenSource.state l.self.now.source).left

abbrev pub decreases-simple_expression : goal.decreases-simple_expression
decreases-simple_expression g l = 7 * (g.S.TokenSource.state l.self.now.source).left + 5

abbrev pub decreases-expression : goal.decreases-expression
decreases-expression g l = 7 * (g.S.TokenSource.state l.self.now.source).left + 6

abbrev pub invariant-factors-loop-operator : goal.invariant-factors-loop-operator
invariant-factors-loop-operator g l =
    Path (forms.factors l.depth) (g.S.TokenSource.state l.fn.self.source) (forms.factors l.depth) (g.S.TokenSource.state l.self.source) (operands_before l.all.items)

abbrev pub decreases-factors-loop-operator : goal.decreases-factors-loop-operator
decreases-factors-loop-operator g l = (g.S.TokenSource.state l.self.source).left

abbrev pub invariant-terms-loop-operator : goal.invariant-terms-loop-operator
invariant-terms-loop-operator g l =
    Path (forms.terms l.depth) (g.S.TokenSource.state l.fn.self.source) (forms.terms l.depth) (g.S.TokenSource.state l.self.source) (operands_before l.all.items)

abbrev pub decreases-terms-loop-operator : goal.decreases-terms-loop-operator
decreases-terms-loop-operator g l = (g.S.TokenSource.state l.self.source).left

abbrev pub invariant-selectors-loop-self : goal.invariant-selectors-loop-self
invariant-selectors-loop-self g l =
    Path (forms.selectors l.depth) (g.S.TokenSource.state l.fn.self.source) (forms.selectors l.depth) (g.S.TokenSource.state l.self.source) (selectors_before l.all.items)

abbrev pub decreases-selectors-loop-self : goal.decreases-selectors-loop-self
decreases-selectors-loop-self g l = (g.S.TokenSource.state l.self.source).left
