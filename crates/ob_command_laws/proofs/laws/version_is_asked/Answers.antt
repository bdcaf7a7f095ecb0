use Rattle.ob_command_laws.proofs.HelpForms.{each_version_asked}
use Rattle.ob_command_laws.proofs.laws.version_is_asked.Goals as goal

pub returns-clause-behind : goal.returns-clause-behind
returns-clause-behind c = each_version_asked
