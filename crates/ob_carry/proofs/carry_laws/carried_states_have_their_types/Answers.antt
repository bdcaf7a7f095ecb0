use Rattle.ob_carry.proofs.Carried.{carried_values}
use Rattle.ob_carry.proofs.carry_laws.carried_states_have_their_types.Goals as goal

pub returns : goal.returns
returns c = λ program resolved entries carriable. carried_values program resolved.distinct entries carriable
