use Rattle.ob_command_laws.proofs.HelpForms.{help_asked, short_help_asked}
use Rattle.ob_command_laws.proofs.laws.help_is_asked.Goals as goal

pub returns-clause-alone : goal.returns-clause-alone
returns-clause-alone c = help_asked

pub returns-clause-long : goal.returns-clause-long
returns-clause-long c = help_asked

pub returns-clause-short : goal.returns-clause-short
returns-clause-short c = short_help_asked

pub returns-clause-of_help : goal.returns-clause-of_help
returns-clause-of_help c = help_asked

pub returns-clause-of_version : goal.returns-clause-of_version
returns-clause-of_version c = help_asked
