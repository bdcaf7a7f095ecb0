use Rattle.ob_command_line.proofs.Behind.{globals, more, same}
use Rattle.ob_command_line.proofs.command_words.drawn_line.Goals as goal

pub returns-clause-app : goal.returns-clause-app
returns-clause-app c =
    let app_1 = more _ _ _ _ _ c.module_line-line.ensures.app c.file_name.ensures.rule c.with_arg-line.ensures.app in
    let app_2 = more _ _ _ _ _ app_1 c.optional_name.ensures.rule c.with_arg-line-2.ensures.app in
    let app_3 = more _ _ _ _ _ app_2 c.optional_count.ensures.rule c.with_arg-line-3.ensures.app in
    more _ _ _ _ _ app_3 c.drawn_budget.ensures.rule c.with_arg.ensures.app

pub returns-clause-local : goal.returns-clause-local
returns-clause-local c =
    let local_1 = same globals _ _ _ c.module_line-line.ensures.local c.with_arg-line.ensures.local in
    let local_2 = same globals _ _ _ local_1 c.with_arg-line-2.ensures.local in
    let local_3 = same globals _ _ _ local_2 c.with_arg-line-3.ensures.local in
    same globals _ _ _ local_3 c.with_arg.ensures.local
