use Rattle.ob_carry.proofs.Carried.{one_state}
use Rattle.ob_carry.proofs.carry_laws.same_states_are_one.Goals as goal

pub returns : goal.returns
returns c = λ program state one other h g. one_state program state one other h g
