use Rattle.std.proofs.Common.{refl}
use Rattle.ob_explained_lines.proofs.line_cause.is_stranger.Goals as goal

pub returns-in-Some : goal.returns-in-Some
returns-in-Some c = (λ t. absurd (cc), λ h. absurd (h c.in-Some._id c.in-Some.ensures))

pub returns-in-None : goal.returns-in-None
returns-in-None c = (λ t. c.in-None.ensures, λ h. refl)
