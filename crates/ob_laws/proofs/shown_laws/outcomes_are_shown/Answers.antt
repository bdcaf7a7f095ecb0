use Rattle.ob_laws.proofs.Outcomes.{outcomes_shown}
use Rattle.ob_laws.proofs.shown_laws.outcomes_are_shown.Goals as goal

pub returns : goal.returns
returns c = outcomes_shown c.code_shows_merges.ensures c.compilations_are_sound.ensures.coded
