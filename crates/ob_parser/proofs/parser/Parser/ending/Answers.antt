use Rattle.std.proofs.Common.{refl}
use Rattle.ob_grammar.specs.View.{name_of}
use Rattle.ob_parser.proofs.Steps.{closed}
use Rattle.ob_parser.proofs.States.{no_way, ends_part, fails_in, past, passed_part}
use Rattle.ob_parser.proofs.Names.{fill_end_name}
use Rattle.ob_parser.proofs.parser.Parser.ending.Goals as goal

pub returns-in_err-expect : goal.returns-in_err-expect
returns-in_err-expect g c =
    passed_part _ _ _ _ _ _ c.from_residual.ensures.1
    (fails_in (no_way (g.S.TokenSource.state c.args.self.now.source)) (closed (λ k. refl)) (fill_end_name (name_of c.args.name.now)) _ _ c.in_err-expect.ensures.answers)

pub returns : goal.returns
returns g c =
    let way = past (no_way (g.S.TokenSource.state c.args.self.now.source)) (closed (λ k. refl)) c.in_ok-expect.ensures.answers in
    ends_part _ _ _ _ c.end_name.result (λ n. refl) way c.end_name.ensures
