use Rattle.std.proofs.Common.{refl}
use Rattle.ob_parser.proofs.Steps.{before, fill_token, fill_both}
use Rattle.ob_parser.proofs.States.{starts, reaches, fails, fails_in, past, passed}
use Rattle.ob_parser.proofs.Types.{fill_type}
use Rattle.ob_parser.proofs.Declarations.{leads_var_declaration}
use Rattle.ob_parser.proofs.parser.Parser.var_declaration.Goals as goal

pub returns-in_err-names-clause-answers : goal.returns-in_err-names-clause-answers
returns-in_err-names-clause-answers g c =
    passed _ _ _ _ _ _ c.from_residual.ensures.1
    (fails_in (starts (λ _ _ w. leads_var_declaration)) (before _ refl) (fill_both fill_token (fill_both fill_type fill_token)) _ _ c.in_err-names.ensures)

pub returns-in_err-of_type-clause-answers : goal.returns-in_err-of_type-clause-answers
returns-in_err-of_type-clause-answers g c =
    let way = past (starts (λ _ _ w. leads_var_declaration)) (before _ refl) c.in_ok-names.ensures in
    passed _ _ _ _ _ _ c.from_residual-in_err-of_type.ensures.1 (fails way _ _ c.in_err-of_type.ensures.answers)

pub returns-clause-answers : goal.returns-clause-answers
returns-clause-answers g c =
    let way = past (starts (λ _ _ w. leads_var_declaration)) (before _ refl) c.in_ok-names.ensures in
    reaches way c.in_ok-of_type.ensures.answers.1
