use Rattle.ob_command_laws.proofs.CommandForms.{list_asked}
use Rattle.ob_command_laws.proofs.laws.list_is_asked.Goals as goal

pub returns : goal.returns
returns c = list_asked
