use Rattle.std.proofs.Common.{refl}
use Rattle.ob_parser.proofs.Steps.{closed, fill_token, fill_both}
use Rattle.ob_parser.proofs.States.{starts, reaches, fails, fails_in, fails_here, past, passed}
use Rattle.ob_parser.proofs.Names.{begins_name, fill_name}
use Rattle.ob_parser.proofs.Types.{fill_type}
use Rattle.ob_parser.proofs.Declarations.{leads_type_declaration}
use Rattle.ob_parser.proofs.parser.Parser.type_declaration.Goals as goal

pub returns-in_err-name-clause-answers : goal.returns-in_err-name-clause-answers
returns-in_err-name-clause-answers g c =
    passed _ _ _ _ _ _ c.from_residual.ensures.1
    (fails_in (starts (λ _ _ w. leads_type_declaration)) (closed (λ k. refl)) (fill_both fill_token (fill_both fill_type fill_token)) _ _
    (fails_here (g.S.TokenSource.state c.args.self.now.source) begins_name fill_name _ _ c.in_err-name.ensures))

pub returns-in_err-definition-clause-answers : goal.returns-in_err-definition-clause-answers
returns-in_err-definition-clause-answers g c =
    let way = past (starts (λ _ _ w. leads_type_declaration)) (closed (λ k. refl)) c.in_ok-name.ensures in
    passed _ _ _ _ _ _ c.from_residual-in_err-definition.ensures.1 (fails way _ _ c.in_err-definition.ensures.answers)

pub returns-clause-answers : goal.returns-clause-answers
returns-clause-answers g c =
    let way = past (starts (λ _ _ w. leads_type_declaration)) (closed (λ k. refl)) c.in_ok-name.ensures in
    reaches way c.in_ok-definition.ensures.answers.1
