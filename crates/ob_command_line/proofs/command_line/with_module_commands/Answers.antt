use Rattle.ob_command_line.proofs.Added.{added}
use Rattle.ob_command_line.proofs.command_line.with_module_commands.Goals as goal

pub returns : goal.returns
returns c a above =
    let check = added _ _ _ _ _ above c.module_line-check.ensures.app c.with_command-program.ensures in
    let list = added _ _ _ _ _ check c.module_line-list.ensures.app c.with_command-program-2.ensures in
    let seq = added _ _ _ _ _ list c.seq_line.ensures.app c.with_command-program-3.ensures in
    added _ _ _ _ _ seq c.live_line.ensures.app c.with_command.ensures
