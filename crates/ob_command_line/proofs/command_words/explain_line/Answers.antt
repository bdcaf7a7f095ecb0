use Rattle.clap.specs.Words.{app_of}
use Rattle.ob_command_line.proofs.Behind.{globals, more, same}
use Rattle.ob_command_line.proofs.command_words.explain_line.Goals as goal

pub returns-clause-app : goal.returns-clause-app
returns-clause-app c =
    let app_1 = same app_of _ _ _ c.files_line.ensures.app c.with_items-line.ensures.app in
    let app_2 = more _ _ _ _ _ app_1 c.flag.ensures.rule c.with_arg-line.ensures.app in
    more _ _ _ _ _ app_2 c.always_true.ensures.rule c.with_arg.ensures.app

pub returns-clause-local : goal.returns-clause-local
returns-clause-local c =
    let local_1 = same globals _ _ _ c.files_line.ensures.local c.with_items-line.ensures.local in
    let local_2 = same globals _ _ _ local_1 c.with_arg-line.ensures.local in
    same globals _ _ _ local_2 c.with_arg.ensures.local
