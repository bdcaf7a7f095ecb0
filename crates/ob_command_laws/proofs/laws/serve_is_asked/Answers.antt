use Rattle.ob_command_laws.proofs.CommandForms.{serve_asks}
use Rattle.ob_command_laws.proofs.FormsAsked.{serve_form}
use Rattle.ob_command_laws.proofs.laws.serve_is_asked.Goals as goal

pub returns-clause-table : goal.returns-clause-table
returns-clause-table c = serve_asks

pub returns-clause-calls : goal.returns-clause-calls
returns-clause-calls c = serve_form
