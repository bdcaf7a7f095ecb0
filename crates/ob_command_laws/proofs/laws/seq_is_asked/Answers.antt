use Rattle.ob_command_laws.proofs.CommandForms.{seq_asks}
use Rattle.ob_command_laws.proofs.FormsAsked.{seq_form}
use Rattle.ob_command_laws.proofs.laws.seq_is_asked.Goals as goal

pub returns-clause-table : goal.returns-clause-table
returns-clause-table c = seq_asks

pub returns-clause-calls : goal.returns-clause-calls
returns-clause-calls c = seq_form
