use Rattle.ob_command_laws.proofs.CommandForms.{live_asks}
use Rattle.ob_command_laws.proofs.FormsAsked.{live_form}
use Rattle.ob_command_laws.proofs.laws.live_is_asked.Goals as goal

pub returns-clause-table : goal.returns-clause-table
returns-clause-table c = live_asks

pub returns-clause-calls : goal.returns-clause-calls
returns-clause-calls c = live_form
