use Rattle.ob_command_laws.proofs.CommandForms.{check_asked}
use Rattle.ob_command_laws.proofs.laws.check_is_asked.Goals as goal

pub returns : goal.returns
returns c = check_asked
