use Rattle.std.proofs.Common.{sym}
use Rattle.ob_grammar.specs.Grammar
use Rattle.ob_grammar.specs.Grammar.{IsMultiplication}
use Rattle.ob_parser.proofs.Operators.{operator_found, operator_missing, no_multiplication}
use Rattle.ob_parser.proofs.parser.Parser.multiplication.Goals as goal

pub returns-in-Times : goal.returns-in-Times
returns-in-Times g c = operator_found IsMultiplication (g.S.TokenSource.state c.args.self.now.source) (sym c.in_ok-here.ensures.token) c.in-Times.is Grammar.times

pub returns-in-Div : goal.returns-in-Div
returns-in-Div g c = operator_found IsMultiplication (g.S.TokenSource.state c.args.self.now.source) (sym c.in_ok-here.ensures.token) c.in-Div.is Grammar.div

pub returns-in-Mod : goal.returns-in-Mod
returns-in-Mod g c = operator_found IsMultiplication (g.S.TokenSource.state c.args.self.now.source) (sym c.in_ok-here.ensures.token) c.in-Mod.is Grammar.mod'

pub returns-in-And : goal.returns-in-And
returns-in-And g c = operator_found IsMultiplication (g.S.TokenSource.state c.args.self.now.source) (sym c.in_ok-here.ensures.token) c.in-And.is Grammar.and

pub returns-in_default : goal.returns-in_default
returns-in_default g c =
    let h = c.in_default in
    operator_missing IsMultiplication (g.S.TokenSource.state c.args.self.now.source) (sym c.in_ok-here.ensures.token) (λ operator i. no_multiplication h.not-Times h.not-Div h.not-Mod h.not-And i)
