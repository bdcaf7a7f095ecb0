use Rattle.std.proofs.Common.{refl, sym, ap, map}
use Rattle.ob_grammar.specs.View.{expr_of}
use Rattle.ob_parser.proofs.Steps.{closed, before_last, fill_token}
use Rattle.ob_parser.proofs.States.{at_here, away, starts, reaches, fails, fails_in, past, path_on, passed, went_as, false_at, true_at}
use Rattle.ob_parser.proofs.Statements.{leads_parens, leads_empty, leads_filled, fill_in_parens}
use Rattle.ob_parser.proofs.parser.Parser.actual_parameters.Goals as goal

pub returns-in_err-expect : goal.returns-in_err-expect
returns-in_err-expect g c =
    passed _ _ _ _ _ _ c.from_residual.ensures.1
    (fails_in (starts (λ _ _ w. leads_parens)) (closed (λ k. refl)) fill_in_parens _ _ c.in_err-expect.ensures.answers)

pub returns-then-at : goal.returns-then-at
returns-then-at g c =
    let here = true_at c.if-at.ensures.kind in
    let way = past (starts (λ _ _ w. leads_parens)) (closed (λ k. refl)) c.in_ok-expect.ensures.answers in
    went_as (ap (map expr_of) (sym c.new.ensures.items)) (reaches (path_on way (starts (λ _ _ w. leads_empty {n = c.args.depth} (at_here w here)))) (c.take.ensures.took _ here))

pub returns-in_err-arguments : goal.returns-in_err-arguments
returns-in_err-arguments g c =
    let way = past (starts (λ _ _ w. leads_parens)) (closed (λ k. refl)) c.in_ok-expect.ensures.answers in
    let way = path_on way (starts (λ _ _ w. leads_filled (away w (false_at c.if-at.ensures.kind)))) in
    passed _ _ _ _ _ _ c.from_residual-in_err-arguments.ensures.1 (fails_in way (before_last refl) fill_token _ _ c.in_err-arguments.ensures)

pub returns-in_err-expect-2 : goal.returns-in_err-expect-2
returns-in_err-expect-2 g c =
    let way = past (starts (λ _ _ w. leads_parens)) (closed (λ k. refl)) c.in_ok-expect.ensures.answers in
    let way = past (path_on way (starts (λ _ _ w. leads_filled (away w (false_at c.if-at.ensures.kind))))) (before_last refl) c.in_ok-arguments.ensures in
    passed _ _ _ _ _ _ c.from_residual-in_err-expect-2.ensures.1 (fails way _ _ c.in_err-expect-2.ensures.answers)

pub returns : goal.returns
returns g c =
    let way = past (starts (λ _ _ w. leads_parens)) (closed (λ k. refl)) c.in_ok-expect.ensures.answers in
    let way = past (path_on way (starts (λ _ _ w. leads_filled (away w (false_at c.if-at.ensures.kind))))) (before_last refl) c.in_ok-arguments.ensures in
    reaches way c.in_ok-expect-2.ensures.answers
