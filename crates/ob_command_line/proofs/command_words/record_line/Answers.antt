use Rattle.ob_command_line.proofs.Behind.{globals, more, same}
use Rattle.ob_command_line.proofs.command_words.record_line.Goals as goal

pub returns-clause-app : goal.returns-clause-app
returns-clause-app c =
    more _ _ _ _ _ c.module_line-line.ensures.app c.file_name.ensures.rule c.with_arg.ensures.app

pub returns-clause-local : goal.returns-clause-local
returns-clause-local c =
    same globals _ _ _ c.module_line-line.ensures.local c.with_arg.ensures.local
