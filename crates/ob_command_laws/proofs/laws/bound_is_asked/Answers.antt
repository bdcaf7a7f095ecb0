use Rattle.ob_command_laws.proofs.CommandForms.{bound_asks}
use Rattle.ob_command_laws.proofs.FormsAsked.{bound_form}
use Rattle.ob_command_laws.proofs.laws.bound_is_asked.Goals as goal

pub returns-clause-table : goal.returns-clause-table
returns-clause-table c = bound_asks

pub returns-clause-bound : goal.returns-clause-bound
returns-clause-bound c = bound_form
