use Rattle.ob_command_line.proofs.Added.{added}
use Rattle.ob_command_line.proofs.command_line.with_telling_commands.Goals as goal

pub returns : goal.returns
returns c a above =
    let explain = added _ _ _ _ _ above c.explain_line-explain.ensures.app c.with_command-program.ensures in
    added _ _ _ _ _ explain c.bound_line.ensures.app c.with_command.ensures
