use Rattle.ob_command_laws.proofs.CommandForms.{state_asks}
use Rattle.ob_command_laws.proofs.FormsAsked.{state_form}
use Rattle.ob_command_laws.proofs.laws.state_is_asked.Goals as goal

pub returns-clause-table : goal.returns-clause-table
returns-clause-table c = state_asks

pub returns-clause-runs : goal.returns-clause-runs
returns-clause-runs c = state_form
