use Rattle.ob_command_laws.proofs.HelpForms.{nothing_asked}
use Rattle.ob_command_laws.proofs.laws.nothing_is_asked.Goals as goal

pub returns : goal.returns
returns c = nothing_asked
