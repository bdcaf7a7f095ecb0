use Rattle.ob_command_laws.proofs.CommandForms.{verify_asked}
use Rattle.ob_command_laws.proofs.laws.verify_is_asked.Goals as goal

pub returns : goal.returns
returns c = verify_asked
