use Rattle.ob_parser.proofs.Phrases.{leads_some, reads_none}
use Rattle.ob_parser.proofs.States.{at_here, away, starts, reaches, fails, passed, stays, false_at, true_at}
use Rattle.ob_parser.proofs.Declarations.{optional_parameters}
use Rattle.ob_parser.proofs.parser.Parser.parameters.Goals as goal

pub returns-then-not-at : goal.returns-then-not-at
returns-then-not-at g c = stays (λ _ _ w. reads_none optional_parameters (away w (false_at c.if-not-at.ensures.kind)))

pub returns-in_err-sections : goal.returns-in_err-sections
returns-in_err-sections g c =
    passed _ _ _ _ _ _ c.from_residual.ensures.1
    (fails (starts (λ _ _ w. leads_some optional_parameters (at_here w (true_at c.if-not-at.ensures.kind)))) _ _ c.in_err-sections.ensures)

pub returns : goal.returns
returns g c = reaches (starts (λ _ _ w. leads_some optional_parameters (at_here w (true_at c.if-not-at.ensures.kind)))) c.in_ok-sections.ensures
