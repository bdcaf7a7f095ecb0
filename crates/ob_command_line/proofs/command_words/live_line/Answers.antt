use Rattle.ob_command_line.proofs.Behind.{globals, more, same}
use Rattle.ob_command_line.proofs.command_words.live_line.Goals as goal

pub returns-clause-app : goal.returns-clause-app
returns-clause-app c =
    let app_1 = more _ _ _ _ _ c.module_line-line.ensures.app c.call_budget.ensures.rule c.with_arg-line.ensures.app in
    more _ _ _ _ _ app_1 c.first_record.ensures.rule c.with_arg.ensures.app

pub returns-clause-local : goal.returns-clause-local
returns-clause-local c =
    let local_1 = same globals _ _ _ c.module_line-line.ensures.local c.with_arg-line.ensures.local in
    same globals _ _ _ local_1 c.with_arg.ensures.local
