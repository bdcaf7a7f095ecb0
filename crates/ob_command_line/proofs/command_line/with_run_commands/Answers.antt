use Rattle.ob_command_line.proofs.Added.{added}
use Rattle.ob_command_line.proofs.command_line.with_run_commands.Goals as goal

pub returns : goal.returns
returns c a above =
    let run = added _ _ _ _ _ above c.run_line.ensures.app c.with_command-program.ensures in
    let serve = added _ _ _ _ _ run c.serve_line-serve.ensures.app c.with_command-program-2.ensures in
    let draw = added _ _ _ _ _ serve c.draw_line.ensures.app c.with_command-program-3.ensures in
    let outcomes = added _ _ _ _ _ draw c.outcomes_line-outcomes.ensures.app c.with_command-program-4.ensures in
    added _ _ _ _ _ outcomes c.state_line.ensures.app c.with_command.ensures
