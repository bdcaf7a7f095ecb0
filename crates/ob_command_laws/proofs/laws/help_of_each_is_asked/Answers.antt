use Rattle.ob_command_laws.proofs.HelpForms.{each_help_asked}
use Rattle.ob_command_laws.proofs.laws.help_of_each_is_asked.Goals as goal

pub returns : goal.returns
returns c = each_help_asked
