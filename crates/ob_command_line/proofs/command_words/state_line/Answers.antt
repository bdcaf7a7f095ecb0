use Rattle.clap.specs.Words.{app_of}
use Rattle.ob_command_line.proofs.Behind.{globals, more, same}
use Rattle.ob_command_line.proofs.command_words.state_line.Goals as goal

pub returns-clause-app : goal.returns-clause-app
returns-clause-app c =
    let app_1 = same app_of _ _ _ c.module_line.ensures.app c.with_items-line.ensures.app in
    let app_2 = more _ _ _ _ _ app_1 c.file_name.ensures.rule c.with_arg-line.ensures.app in
    let app_3 = more _ _ _ _ _ app_2 c.file_name-2.ensures.rule c.with_arg-line-2.ensures.app in
    let app_4 = more _ _ _ _ _ app_3 c.process_count.ensures.rule c.with_arg-line-3.ensures.app in
    let app_5 = more _ _ _ _ _ app_4 c.call_budget.ensures.rule c.with_arg-line-4.ensures.app in
    more _ _ _ _ _ app_5 c.first_record.ensures.rule c.with_arg.ensures.app

pub returns-clause-local : goal.returns-clause-local
returns-clause-local c =
    let local_1 = same globals _ _ _ c.module_line.ensures.local c.with_items-line.ensures.local in
    let local_2 = same globals _ _ _ local_1 c.with_arg-line.ensures.local in
    let local_3 = same globals _ _ _ local_2 c.with_arg-line-2.ensures.local in
    let local_4 = same globals _ _ _ local_3 c.with_arg-line-3.ensures.local in
    let local_5 = same globals _ _ _ local_4 c.with_arg-line-4.ensures.local in
    same globals _ _ _ local_5 c.with_arg.ensures.local
