use Rattle.std.proofs.Common.{refl}
use Rattle.ob_parser.proofs.Steps.{closed, before_last, fill_token, fill_both}
use Rattle.ob_parser.proofs.States.{no_way, reaches, fails, fails_in, past, passed_part}
use Rattle.ob_parser.proofs.Firsts.{fill_expression}
use Rattle.ob_parser.proofs.parser.Parser.constant_value.Goals as goal

pub returns-in_err-expect-clause-answers : goal.returns-in_err-expect-clause-answers
returns-in_err-expect-clause-answers g c =
    passed_part _ _ _ _ _ _ c.from_residual.ensures.1
    (fails_in (no_way (g.S.TokenSource.state c.args.self.now.source)) (closed (λ k. refl)) (fill_both fill_expression fill_token) _ _ c.in_err-expect.ensures.answers)

pub returns-in_err-value-clause-answers : goal.returns-in_err-value-clause-answers
returns-in_err-value-clause-answers g c =
    let way = past (no_way (g.S.TokenSource.state c.args.self.now.source)) (closed (λ k. refl)) c.in_ok-expect.ensures.answers in
    passed_part _ _ _ _ _ _ c.from_residual-in_err-value.ensures.1 (fails_in way (before_last refl) fill_token _ _ c.in_err-value.ensures)

pub returns-in_err-expect-2-clause-answers : goal.returns-in_err-expect-2-clause-answers
returns-in_err-expect-2-clause-answers g c =
    let way = past (no_way (g.S.TokenSource.state c.args.self.now.source)) (closed (λ k. refl)) c.in_ok-expect.ensures.answers in
    let way = past way (before_last refl) c.in_ok-value.ensures in
    passed_part _ _ _ _ _ _ c.from_residual-in_err-expect-2.ensures.1 (fails way _ _ c.in_err-expect-2.ensures.answers)

pub returns-clause-answers : goal.returns-clause-answers
returns-clause-answers g c =
    let way = past (no_way (g.S.TokenSource.state c.args.self.now.source)) (closed (λ k. refl)) c.in_ok-expect.ensures.answers in
    let way = past way (before_last refl) c.in_ok-value.ensures in
    ((_, _), reaches way c.in_ok-expect-2.ensures.answers)
