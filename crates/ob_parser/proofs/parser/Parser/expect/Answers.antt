use Rattle.ob_parser.proofs.Steps.{refuses_token}
use Rattle.ob_parser.proofs.States.{away, refused_here, false_at, true_at}
use Rattle.ob_parser.proofs.parser.Parser.expect.Goals as goal

pub returns-then-at-clause-answers : goal.returns-then-at-clause-answers
returns-then-at-clause-answers g c = c.take.ensures.took _ (true_at c.if-at.ensures.kind)

pub returns-else-at-clause-answers : goal.returns-else-at-clause-answers
returns-else-at-clause-answers g c =
    refused_here (g.S.TokenSource.state c.args.self.now.source) c.unexpected.ensures (λ _ _ w. refuses_token (away w (false_at c.if-at.ensures.kind)))
