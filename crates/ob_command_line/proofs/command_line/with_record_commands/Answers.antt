use Rattle.ob_command_line.proofs.Added.{added}
use Rattle.ob_command_line.proofs.command_line.with_record_commands.Goals as goal

pub returns : goal.returns
returns c a above =
    let verify = added _ _ _ _ _ above c.record_line-verify.ensures.app c.with_command-program.ensures in
    added _ _ _ _ _ verify c.order_line.ensures.app c.with_command.ensures
