use Rattle.std.proofs.Common.{refl}
use Rattle.ob_grammar.specs.View.{name_of}
use Rattle.ob_parser.proofs.Steps.{closed, fill_token, fill_linked}
use Rattle.ob_parser.proofs.States.{starts, reaches, fails, fails_in, fails_in_linked, fails_here, past, passed}
use Rattle.ob_parser.proofs.Names.{begins_name, fill_name}
use Rattle.ob_parser.proofs.Declarations.{leads_module, name_follows, fill_behind_name, past_name}
use Rattle.ob_parser.proofs.parser.Parser.module_text.Goals as goal

pub returns-in_err-expect : goal.returns-in_err-expect
returns-in_err-expect g c =
    passed _ _ _ _ _ _ c.from_residual.ensures.1
    (fails_in (starts (λ _ _ w. leads_module)) (closed (λ k. refl)) (fill_linked fill_name fill_behind_name) _ _ c.in_err-expect.ensures.answers)

pub returns-in_err-name : goal.returns-in_err-name
returns-in_err-name g c =
    let way = past (starts (λ _ _ w. leads_module)) (closed (λ k. refl)) c.in_ok-expect.ensures.answers in
    passed _ _ _ _ _ _ c.from_residual-in_err-name.ensures.1
    (fails_in_linked way name_follows fill_behind_name _ _ (fails_here (g.S.TokenSource.state c.expect.new.self.source) begins_name fill_name _ _ c.in_err-name.ensures))

pub returns-in_err-block : goal.returns-in_err-block
returns-in_err-block g c =
    let way = past_name (past (starts (λ _ _ w. leads_module)) (closed (λ k. refl)) c.in_ok-expect.ensures.answers) c.in_ok-name.ensures in
    passed _ _ _ _ _ _ c.from_residual-in_err-block.ensures.1 (fails_in way (closed (λ k. refl)) fill_token _ _ c.in_err-block.ensures)

pub returns-in_err-expect-2 : goal.returns-in_err-expect-2
returns-in_err-expect-2 g c =
    let way = past_name (past (starts (λ _ _ w. leads_module)) (closed (λ k. refl)) c.in_ok-expect.ensures.answers) c.in_ok-name.ensures in
    let way = past way (closed (λ k. refl)) c.in_ok-block.ensures.1 in
    passed _ _ _ _ _ _ c.from_residual-in_err-expect-2.ensures.1 (fails way _ _ c.in_err-expect-2.ensures.answers)

pub returns : goal.returns
returns g c =
    let way = past_name (past (starts (λ _ _ w. leads_module)) (closed (λ k. refl)) c.in_ok-expect.ensures.answers) c.in_ok-name.ensures in
    let way = past way (closed (λ k. refl)) c.in_ok-block.ensures.1 in
    reaches way c.in_ok-expect-2.ensures.answers
