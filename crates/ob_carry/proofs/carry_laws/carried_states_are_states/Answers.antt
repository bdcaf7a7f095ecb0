use Rattle.ob_carry.proofs.Carried.{carried_state}
use Rattle.ob_carry.proofs.carry_laws.carried_states_are_states.Goals as goal

pub returns : goal.returns
returns c = λ program resolved entries carriable. carried_state program resolved.distinct entries carriable
