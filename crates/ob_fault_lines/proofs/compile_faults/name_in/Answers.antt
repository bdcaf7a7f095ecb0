use Rattle.std.proofs.Common.{◌≡◌, ◌∙◌, ◌<◌, ◌≤◌, arith, length}
use Rattle.std.proofs.lemmas.Bool.Decides.{nat_tests}
use Rattle.ob_fault_lines.proofs.Names.{name_there, no_name}
use Rattle.ob_fault_lines.proofs.compile_faults.name_in.Goals as goal

pub returns-in-Some : goal.returns-in-Some
returns-in-Some c =
    let within : c.args.position < length c.args.values.now = grind (arith, nat_tests, c.in-Some.ensures.lookup.0) in
    c.as_str.ensures.value ∙ name_there c.args.values.now c.args.position c.in-Some.field.now within c.in-Some.ensures.lookup.1

pub returns-in-None : goal.returns-in-None
returns-in-None c =
    let beyond : length c.args.values.now ≤ c.args.position = grind (arith, nat_tests, c.in-None.ensures.lookup.0) in
    no_name c.args.values.now c.args.position beyond
