use Rattle.std.proofs.Common.{sym}
use Rattle.ob_grammar.specs.Grammar
use Rattle.ob_grammar.specs.Grammar.{IsRelation}
use Rattle.ob_parser.proofs.Operators.{operator_found, operator_missing, no_relation}
use Rattle.ob_parser.proofs.parser.Parser.relation.Goals as goal

pub returns-in-Equal : goal.returns-in-Equal
returns-in-Equal g c = operator_found IsRelation (g.S.TokenSource.state c.args.self.now.source) (sym c.in_ok-here.ensures.token) c.in-Equal.is Grammar.equal

pub returns-in-NotEqual : goal.returns-in-NotEqual
returns-in-NotEqual g c = operator_found IsRelation (g.S.TokenSource.state c.args.self.now.source) (sym c.in_ok-here.ensures.token) c.in-NotEqual.is Grammar.not_equal

pub returns-in-Less : goal.returns-in-Less
returns-in-Less g c = operator_found IsRelation (g.S.TokenSource.state c.args.self.now.source) (sym c.in_ok-here.ensures.token) c.in-Less.is Grammar.less

pub returns-in-LessOrEqual : goal.returns-in-LessOrEqual
returns-in-LessOrEqual g c = operator_found IsRelation (g.S.TokenSource.state c.args.self.now.source) (sym c.in_ok-here.ensures.token) c.in-LessOrEqual.is Grammar.less_or_equal

pub returns-in-Greater : goal.returns-in-Greater
returns-in-Greater g c = operator_found IsRelation (g.S.TokenSource.state c.args.self.now.source) (sym c.in_ok-here.ensures.token) c.in-Greater.is Grammar.greater

pub returns-in-GreaterOrEqual : goal.returns-in-GreaterOrEqual
returns-in-GreaterOrEqual g c = operator_found IsRelation (g.S.TokenSource.state c.args.self.now.source) (sym c.in_ok-here.ensures.token) c.in-GreaterOrEqual.is Grammar.greater_or_equal

pub returns-in_default : goal.returns-in_default
returns-in_default g c =
    let h = c.in_default in
    operator_missing IsRelation (g.S.TokenSource.state c.args.self.now.source) (sym c.in_ok-here.ensures.token) (λ operator i. no_relation h.not-Equal h.not-NotEqual h.not-Less h.not-LessOrEqual h.not-Greater h.not-GreaterOrEqual i)
