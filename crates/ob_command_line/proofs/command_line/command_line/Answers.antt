use Rattle.ob_command_line.proofs.command_line.command_line.Goals as goal

pub returns : goal.returns
returns c =
    let modules = c.with_module_commands-program.ensures _ c.program_line.ensures in
    let runs = c.with_run_commands-program.ensures _ modules in
    let records = c.with_record_commands-program.ensures _ runs in
    c.with_telling_commands.ensures _ records
