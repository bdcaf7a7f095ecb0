use Rattle.std.proofs.Common.{refl}
use Rattle.ob_parser.specs.Forms as forms
use Rattle.ob_parser.proofs.Steps.{closed, before, fill_token, fill_both}
use Rattle.ob_parser.proofs.States.{starts, reaches, fails, fails_in, past, passed}
use Rattle.ob_parser.proofs.Types.{fill_type}
use Rattle.ob_parser.proofs.Declarations.{leads_section, var_follows}
use Rattle.ob_parser.proofs.parser.Parser.section.Goals as goal

pub returns-in_err-names : goal.returns-in_err-names
returns-in_err-names g c =
    let way = past (starts (λ _ _ w. leads_section)) (var_follows _) (c.word-is_var.ensures forms.var refl) in
    passed _ _ _ _ _ _ c.from_residual.ensures.1 (fails_in way (before _ refl) (fill_both fill_token fill_type) _ _ c.in_err-names.ensures)

pub returns-in_err-expect : goal.returns-in_err-expect
returns-in_err-expect g c =
    let way = past (starts (λ _ _ w. leads_section)) (var_follows _) (c.word-is_var.ensures forms.var refl) in
    let way = past way (before _ refl) c.in_ok-names.ensures in
    passed _ _ _ _ _ _ c.from_residual-in_err-expect.ensures.1 (fails_in way (closed (λ k. refl)) fill_type _ _ c.in_err-expect.ensures.answers)

pub returns-in_err-of_type : goal.returns-in_err-of_type
returns-in_err-of_type g c =
    let way = past (starts (λ _ _ w. leads_section)) (var_follows _) (c.word-is_var.ensures forms.var refl) in
    let way = past (past way (before _ refl) c.in_ok-names.ensures) (closed (λ k. refl)) c.in_ok-expect.ensures.answers in
    passed _ _ _ _ _ _ c.from_residual-in_err-of_type.ensures.1 (fails way _ _ c.in_err-of_type.ensures)

pub returns : goal.returns
returns g c =
    let way = past (starts (λ _ _ w. leads_section)) (var_follows _) (c.word-is_var.ensures forms.var refl) in
    let way = past (past way (before _ refl) c.in_ok-names.ensures) (closed (λ k. refl)) c.in_ok-expect.ensures.answers in
    reaches way c.in_ok-of_type.ensures
