use Rattle.std.proofs.Common.{sym, ◌∙◌}
use Rattle.ob_grammar.proofs.Exits.{exits}
use Rattle.ob_parser.specs.Answers.{AnswersModule}
use Rattle.ob_parser.proofs.Whole.{token_of, none_of, goes_past, whole_fails, whole_reads}
use Rattle.ob_parser.proofs.parser.Parser.whole_module.Goals as goal

pub returns-in_err-tree : goal.returns-in_err-tree
returns-in_err-tree g c =
    exits (λ r. AnswersModule (g.S.TokenSource.state c.args.self.now.source) r (g.S.TokenSource.state c.module_text.new.self.source)) _ _ c.from_residual.ensures.1
    (whole_fails _ _ _ c.in_err-tree.ensures)

pub returns-then-is_some : goal.returns-then-is_some
returns-then-is_some g c =
    let t = token_of _ c.if-is_some.ensures in
    goes_past _ t.0 _ c.in_ok-tree.ensures (sym c.here.ensures.token ∙ t.1) c.unexpected.ensures

pub returns : goal.returns
returns g c = whole_reads _ c.in_ok-tree.ensures (sym c.here.ensures.token ∙ none_of _ c.if-is_some.ensures)
