use Rattle.std.proofs.Common.{refl}
use Rattle.ob_parser.specs.Forms as forms
use Rattle.ob_parser.proofs.Steps.{closed, fill_both}
use Rattle.ob_parser.proofs.States.{starts, reaches, fails, fails_in, fails_here, past, passed, path_on}
use Rattle.ob_parser.proofs.Openings.{went_opens}
use Rattle.ob_parser.proofs.Names.{begins_name, fill_name}
use Rattle.ob_parser.proofs.Declarations.{leads_heading, leads_open, leads_parameters, times_follows, fill_times, fill_in_heading, fill_last_parameters}
use Rattle.ob_parser.proofs.parser.Parser.heading.Goals as goal

pub returns-in_err-place : goal.returns-in_err-place
returns-in_err-place g c =
    passed _ _ _ _ _ _ c.from_residual.ensures.1
    (fails_in (starts (λ _ _ w. leads_heading _)) (closed (λ k. refl)) (fill_in_heading _) _ _
    (fails (starts (λ _ _ w. leads_open c.requires)) _ _ c.in_err-place.ensures.answers))

pub returns-in_err-name : goal.returns-in_err-name
returns-in_err-name g c =
    let way = past (starts (λ _ _ w. leads_heading _)) (closed (λ k. refl)) (went_opens c.requires c.in_ok-place.ensures.answers) in
    passed _ _ _ _ _ _ c.from_residual-in_err-name.ensures.1
    (fails_in way (closed (λ k. refl)) (fill_both fill_times fill_last_parameters) _ _
    (fails_here (g.S.TokenSource.state c.expect.new.self.source) begins_name fill_name _ _ c.in_err-name.ensures))

pub returns-in_err-parameters : goal.returns-in_err-parameters
returns-in_err-parameters g c =
    let way = past (starts (λ _ _ w. leads_heading _)) (closed (λ k. refl)) (went_opens c.requires c.in_ok-place.ensures.answers) in
    let way = past (past way (closed (λ k. refl)) c.in_ok-name.ensures) times_follows (c.word-is_exported.ensures forms.times refl) in
    passed _ _ _ _ _ _ c.from_residual-in_err-parameters.ensures.1 (fails (path_on way (starts (λ _ _ w. leads_parameters))) _ _ c.in_err-parameters.ensures)

pub returns : goal.returns
returns g c =
    let way = past (starts (λ _ _ w. leads_heading _)) (closed (λ k. refl)) (went_opens c.requires c.in_ok-place.ensures.answers) in
    let way = past (past way (closed (λ k. refl)) c.in_ok-name.ensures) times_follows (c.word-is_exported.ensures forms.times refl) in
    reaches (path_on way (starts (λ _ _ w. leads_parameters))) c.in_ok-parameters.ensures
