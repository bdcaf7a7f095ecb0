use Rattle.std.proofs.Common.{sym}
use Rattle.ob_grammar.specs.Grammar
use Rattle.ob_grammar.specs.Grammar.{IsAddition}
use Rattle.ob_parser.proofs.Operators.{operator_found, operator_missing, no_addition}
use Rattle.ob_parser.proofs.parser.Parser.addition.Goals as goal

pub returns-in-Plus : goal.returns-in-Plus
returns-in-Plus g c = operator_found IsAddition (g.S.TokenSource.state c.args.self.now.source) (sym c.in_ok-here.ensures.token) c.in-Plus.is Grammar.plus

pub returns-in-Minus : goal.returns-in-Minus
returns-in-Minus g c = operator_found IsAddition (g.S.TokenSource.state c.args.self.now.source) (sym c.in_ok-here.ensures.token) c.in-Minus.is Grammar.minus

pub returns-in-Or : goal.returns-in-Or
returns-in-Or g c = operator_found IsAddition (g.S.TokenSource.state c.args.self.now.source) (sym c.in_ok-here.ensures.token) c.in-Or.is Grammar.or

pub returns-in_default : goal.returns-in_default
returns-in_default g c =
    let h = c.in_default in
    operator_missing IsAddition (g.S.TokenSource.state c.args.self.now.source) (sym c.in_ok-here.ensures.token) (λ operator i. no_addition h.not-Plus h.not-Minus h.not-Or i)
