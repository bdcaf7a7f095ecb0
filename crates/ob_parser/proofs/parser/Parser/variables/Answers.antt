use Rattle.std.proofs.Common.{refl}
use Rattle.ob_parser.specs.Forms as forms
use Rattle.ob_parser.proofs.Steps.{closed}
use Rattle.ob_parser.proofs.Phrases.{leads_some, leads_part, reads_none}
use Rattle.ob_parser.proofs.States.{at_here, away, starts, reaches, fails, past, path_on, passed, stays, false_at, true_at}
use Rattle.ob_parser.proofs.Declarations.{optional_variables}
use Rattle.ob_parser.proofs.parser.Parser.variables.Goals as goal

pub returns-then-not-at : goal.returns-then-not-at
returns-then-not-at g c = stays (λ _ _ w. reads_none optional_variables (away w (false_at c.if-not-at.ensures.kind)))

pub returns-in_err-declared : goal.returns-in_err-declared
returns-in_err-declared g c =
    let here = true_at c.if-not-at.ensures.kind in
    let way = past (path_on (starts (λ _ _ w. leads_some optional_variables (at_here w here))) (starts (λ _ _ w. leads_part (forms.var_declarations _)))) (closed (λ k. refl)) (c.take-place.ensures.took _ here) in
    passed _ _ _ _ _ _ c.from_residual.ensures.1 (fails way _ _ c.in_err-declared.ensures)

pub returns : goal.returns
returns g c =
    let here = true_at c.if-not-at.ensures.kind in
    let way = past (path_on (starts (λ _ _ w. leads_some optional_variables (at_here w here))) (starts (λ _ _ w. leads_part (forms.var_declarations _)))) (closed (λ k. refl)) (c.take-place.ensures.took _ here) in
    reaches way c.in_ok-declared.ensures
