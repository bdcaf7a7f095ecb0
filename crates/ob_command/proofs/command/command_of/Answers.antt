use Rattle.std.proofs.Common.{◌∙◌, ap, codes, option_map, sym}
use Rattle.clap.specs.Words.{found_of, rows_of}
use Rattle.ob_command.specs.CommandLine.{Given, asked}
use Rattle.ob_command.proofs.Readings.{first_row, no_module, on_module}
use Rattle.ob_command.proofs.command.command_of.Goals as goal

pub returns-in-Some : goal.returns-in-Some
returns-in-Some c =
    let m = first_row (found_of c.args.matches.now) (codes "MODULE") c.get_str.result _ c.get_str.ensures (ap (option_map (λ s. s.now)) c.in-Some.is) in
    c.asked.ensures ∙ (ap (λ (given : Given). asked c.args.name.now c.in-Some.module_name.now given) c.given_of.ensures
    ∙ sym (on_module c.args.name.now _ (rows_of (found_of c.args.matches.now)) m))

pub returns-in-None : goal.returns-in-None
returns-in-None c =
    let m = first_row (found_of c.args.matches.now) (codes "MODULE") c.get_str.result _ c.get_str.ensures (ap (option_map (λ s. s.now)) c.in-None.is) in
    sym (no_module c.args.name.now (rows_of (found_of c.args.matches.now)) m)
