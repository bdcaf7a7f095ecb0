use Rattle.ob_command_line.proofs.Behind.{globals, more, same}
use Rattle.ob_command_line.proofs.command_words.files_line.Goals as goal

pub returns-clause-app : goal.returns-clause-app
returns-clause-app c =
    let app_1 = more _ _ _ _ _ c.texts_line-line.ensures.app c.first_record.ensures.rule c.with_arg-line.ensures.app in
    let app_2 = more _ _ _ _ _ app_1 c.explained_record.ensures.rule c.with_arg-line-2.ensures.app in
    more _ _ _ _ _ app_2 c.explained_history.ensures.rule c.with_arg.ensures.app

pub returns-clause-local : goal.returns-clause-local
returns-clause-local c =
    let local_1 = same globals _ _ _ c.texts_line-line.ensures.local c.with_arg-line.ensures.local in
    let local_2 = same globals _ _ _ local_1 c.with_arg-line-2.ensures.local in
    same globals _ _ _ local_2 c.with_arg.ensures.local
