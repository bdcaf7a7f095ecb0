use Rattle.std.proofs.Common.{refl}
use Rattle.ob_parser.specs.Forms as forms
use Rattle.ob_parser.proofs.Steps.{closed, before, fill_token, fill_both}
use Rattle.ob_parser.proofs.States.{at_here, here_at, away, starts, reaches, fails, fails_in, fails_here, past, path_on, passed, stays, false_at, true_at}
use Rattle.ob_parser.proofs.Names.{begins_name, fill_name}
use Rattle.ob_parser.proofs.Firsts.{fill_expression}
use Rattle.ob_parser.proofs.Statements.{leads_named, leads_actuals, leads_assigned, reads_bare, fill_after_name}
use Rattle.ob_parser.proofs.parser.Parser.assignment_or_call.Goals as goal

pub returns-in_err-name : goal.returns-in_err-name
returns-in_err-name g c =
    passed _ _ _ _ _ _ c.from_residual.ensures.1
    (fails_in (starts (λ _ _ w. leads_named (at_here w c.requires))) (closed (λ k. refl)) fill_after_name _ _
    (fails_here (g.S.TokenSource.state c.args.self.now.source) begins_name fill_name _ _ c.in_err-name.ensures))

pub returns-in_err-actuals : goal.returns-in_err-actuals
returns-in_err-actuals g c =
    let way = past (starts (λ _ _ w. leads_named (at_here w c.requires))) (closed (λ k. refl)) c.in_ok-name.ensures in
    let way = path_on way (starts (λ _ _ w. leads_actuals (at_here w (true_at c.if-at.ensures.kind)))) in
    passed _ _ _ _ _ _ c.from_residual-in_err-actuals.ensures.1 (fails way _ _ c.in_err-actuals.ensures)

pub returns-in_ok-actuals : goal.returns-in_ok-actuals
returns-in_ok-actuals g c =
    let way = past (starts (λ _ _ w. leads_named (at_here w c.requires))) (closed (λ k. refl)) c.in_ok-name.ensures in
    let way = path_on way (starts (λ _ _ w. leads_actuals (at_here w (true_at c.if-at.ensures.kind)))) in
    reaches way c.in_ok-actuals.ensures

pub returns-in_err-selectors : goal.returns-in_err-selectors
returns-in_err-selectors g c =
    let here = true_at c.if-at_assignment.ensures in
    let way = past (starts (λ _ _ w. leads_named (at_here w c.requires))) (closed (λ k. refl)) c.in_ok-name.ensures in
    let way = path_on way (starts (λ _ _ w. leads_assigned here.1 (at_here w here.2))) in
    passed _ _ _ _ _ _ c.from_residual-in_err-selectors.ensures.1
    (fails_in way (before (forms.expression c.args.depth) refl) (fill_both fill_token fill_expression) _ _ c.in_err-selectors.ensures)

pub returns-in_err-expect : goal.returns-in_err-expect
returns-in_err-expect g c =
    let here = true_at c.if-at_assignment.ensures in
    let way = past (starts (λ _ _ w. leads_named (at_here w c.requires))) (closed (λ k. refl)) c.in_ok-name.ensures in
    let way = path_on way (starts (λ _ _ w. leads_assigned here.1 (at_here w here.2))) in
    let way = past way (before (forms.expression c.args.depth) refl) c.in_ok-selectors.ensures in
    passed _ _ _ _ _ _ c.from_residual-in_err-expect.ensures.1 (fails_in way (closed (λ k. refl)) fill_expression _ _ c.in_err-expect.ensures.answers)

pub returns-in_err-value : goal.returns-in_err-value
returns-in_err-value g c =
    let here = true_at c.if-at_assignment.ensures in
    let way = past (starts (λ _ _ w. leads_named (at_here w c.requires))) (closed (λ k. refl)) c.in_ok-name.ensures in
    let way = path_on way (starts (λ _ _ w. leads_assigned here.1 (at_here w here.2))) in
    let way = past way (before (forms.expression c.args.depth) refl) c.in_ok-selectors.ensures in
    let way = past way (closed (λ k. refl)) c.in_ok-expect.ensures.answers in
    passed _ _ _ _ _ _ c.from_residual-in_err-value.ensures.1 (fails way _ _ c.in_err-value.ensures)

pub returns-in_ok-value : goal.returns-in_ok-value
returns-in_ok-value g c =
    let here = true_at c.if-at_assignment.ensures in
    let way = past (starts (λ _ _ w. leads_named (at_here w c.requires))) (closed (λ k. refl)) c.in_ok-name.ensures in
    let way = path_on way (starts (λ _ _ w. leads_assigned here.1 (at_here w here.2))) in
    let way = past way (before (forms.expression c.args.depth) refl) c.in_ok-selectors.ensures in
    let way = past way (closed (λ k. refl)) c.in_ok-expect.ensures.answers in
    reaches way c.in_ok-value.ensures

pub returns-else-at_assignment : goal.returns-else-at_assignment
returns-else-at_assignment g c =
    let way = past (starts (λ _ _ w. leads_named (at_here w c.requires))) (closed (λ k. refl)) c.in_ok-name.ensures in
    reaches way (stays (λ _ _ w. reads_bare {n = c.args.depth} (away w (false_at c.if-at.ensures.kind)) (λ m. false_at c.if-at_assignment.ensures (m.0, m.1, here_at w m.2))))
