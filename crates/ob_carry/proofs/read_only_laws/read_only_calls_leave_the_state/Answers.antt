use Rattle.ob_carry.proofs.Runs.{read_only_calls}
use Rattle.ob_carry.proofs.read_only_laws.read_only_calls_leave_the_state.Goals as goal

pub returns : goal.returns
returns c = read_only_calls
