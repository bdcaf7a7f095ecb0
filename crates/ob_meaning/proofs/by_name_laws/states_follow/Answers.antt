use Rattle.ob_meaning.proofs.Kept.{opening_has, opening_state, call_has}
use Rattle.ob_meaning.proofs.by_name_laws.states_follow.Goals as goal

pub returns-clause-opens : goal.returns-clause-opens
returns-clause-opens c = opening_has

pub returns-clause-opening_state : goal.returns-clause-opening_state
returns-clause-opening_state c = opening_state

pub returns-clause-goes_on : goal.returns-clause-goes_on
returns-clause-goes_on c = call_has
